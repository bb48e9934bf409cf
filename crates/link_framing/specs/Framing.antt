-- Frames of a link, and their bytes.
use Rattle.std.specs.Prelude.{ℕ, ◌≤◌, ◌<◌, ◌^◌, List, ◌++◌, length}
use Rattle.wire_core.specs.Spelling.{AreBytes, number, vector}
use Rattle.wire_core.specs.declared.limits.TheConstants.{MAX_MESSAGE}
use Rattle.link_framing.specs.declared.frame.Frame.{Frame}
use Rattle.link_framing.specs.declared.frame.Frame.TheVariants.{Payload, Ack}

-- 128, a sequence and a message, or 129, a sequence and a mask of those before it (RFC 6940, 6.6.2)
unfoldable pub frame : Frame → List ℕ
frame (Payload sequence message) = number 1 128 ++ (number 4 sequence ++ vector 3 message)
frame (Ack sequence received) = number 1 129 ++ (number 4 sequence ++ number 4 received)

-- Its message, if it has one, isn't too large.
abbrev pub IsWithin : Frame → Type 0
IsWithin (Payload sequence message) = length message ≤ MAX_MESSAGE
IsWithin (Ack sequence received) = Unit {0}

-- Its numbers have four bytes, and its message is bytes that aren't too many.
abbrev pub IsFrame : Frame → Type 0
IsFrame (Payload sequence message) =
    (sequence < 2 ^ 32) × (length message ≤ MAX_MESSAGE) × AreBytes message
IsFrame (Ack sequence received) = (sequence < 2 ^ 32) × (received < 2 ^ 32)
