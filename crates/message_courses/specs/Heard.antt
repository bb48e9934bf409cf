-- What is known of the parts of a message that is heard.
use Rattle.std.specs.Prelude.{◌≡◌, ℕ, ◌+◌, ◌≤◌, List, length, Ok}
use Rattle.wire_core.specs.declared.limits.TheConstants.{MAX_MESSAGE}
use Rattle.wire_core.specs.Part.{part}
use Rattle.wire_core.specs.Reading.{value_of, number_at}
use Rattle.forwarding_header.specs.Destinations.{destinations}
use Rattle.forwarding_header.specs.Header.{header, IsSpelledHeader, IsHeaderInRange}
use Rattle.node_model.specs.declared.limits.TheConstants.{MAX_VIA}
use Rattle.node_model.specs.Heard.{Envelope}

-- A message's header fits, its code is the first behind it, and the header and what is behind it
-- are all of the message, which is no longer than one may be.
pub record IsEnvelopeOf (message : List ℕ) (e : Envelope) : Type 0 where
  pub is_spelled : IsSpelledHeader e.header
  pub in_range : IsHeaderInRange e.header
  pub coded : value_of (number_at 2 (part 0 e.behind)) ≡ Ok e.code
  pub whole : length message ≡ length (header e.header) + length e.behind
  pub within : length message ≤ MAX_MESSAGE

-- The same of a message that is looked at further: its via list is short.
pub record IsHeardIn (message : List ℕ) (e : Envelope) : Type 0 where
  pub envelope : IsEnvelopeOf message e
  pub via : length (destinations e.header.via) ≤ MAX_VIA
