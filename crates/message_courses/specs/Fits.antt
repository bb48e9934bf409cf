-- What is known of a header with which a message goes on.
use Rattle.std.specs.Prelude.{◌≡◌, ℕ, ◌+◌, ◌≤◌, List, length}
use Rattle.wire_core.specs.declared.limits.TheConstants.{MAX_MESSAGE}
use Rattle.forwarding_header.specs.declared.header.Header.{Header}
use Rattle.forwarding_header.specs.Header.{header, IsSpelledHeader, IsHeaderInRange}
use Rattle.node_messages.specs.Making.{whole}
use Rattle.node_model.specs.declared.course.AnswerCourse.{AnswerCourse}
use Rattle.node_model.specs.declared.course.AnswerCourse.TheVariants.{Ignored, Passed, Mine}
use Rattle.node_model.specs.declared.course.Course.{Course}
use Rattle.node_model.specs.declared.course.Course.TheVariants.{Forwarded}

-- A header that takes the place of another one fits, and spells at most so many bytes more.
pub record IsNextOf (more : ℕ) (h next : Header) : Type 0 where
  pub is_spelled : IsSpelledHeader next
  pub in_range : IsHeaderInRange next
  pub longer : length (header next) ≤ length (header h) + more

-- The header with which an answer is passed on fits, and is no longer than the one that it had.
abbrev pub IsPassedOn : Header → AnswerCourse → Type 0
IsPassedOn h (Passed next passed) = IsNextOf 0 h passed
IsPassedOn h Mine = Unit {0}
IsPassedOn h Ignored = Unit {0}

-- A request of so many bytes goes on with a header that fits: it spells 18 bytes more at most, and
-- with it the message isn't too long.
pub record IsOnward (size : ℕ) (h next : Header) : Type 0 where
  pub fits : IsNextOf 18 h next
  pub within : (behind : List ℕ) → size ≡ length (header h) + length behind
      → length (whole next behind) ≤ MAX_MESSAGE

-- The header with which a request goes on fits, if it does.
abbrev pub IsForwardedOn : ℕ → Header → Course → Type 0
IsForwardedOn size h (Forwarded to next) = IsOnward size h next
IsForwardedOn size h _ = Unit {0}
