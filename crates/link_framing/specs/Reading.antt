-- Reading a frame from the front of what is held of a stream.
use Rattle.std.specs.Prelude.{ℕ, List, ◌==◌, Option, if◌then◌else◌}
use Rattle.std.specs.Result.{result_ok}
use Rattle.wire_core.specs.declared.bad.Reason.TheVariants.{BadValue}
use Rattle.wire_core.specs.Reading.{Reader, ◌>>=◌, done, refused, place_at, rest_at, number_at, limited_at, filled_at, pair_at, whole_of}
use Rattle.wire_core.specs.declared.limits.TheConstants.{MAX_MESSAGE}
use Rattle.link_framing.specs.declared.frame.Frame.{Frame}
use Rattle.link_framing.specs.declared.frame.Frame.TheVariants.{Payload, Ack}

-- the message that a payload carries
unfoldable pub carried_at : Reader (List ℕ)
carried_at = do
  place ← place_at
  len ← limited_at 3 MAX_MESSAGE
  filled_at place len rest_at

-- a payload behind its first byte
unfoldable pub payload_at : Reader Frame
payload_at = do
  fields ← pair_at (number_at 4) carried_at
  done (Payload fields.0 fields.1)

-- an ack behind its first byte
unfoldable pub ack_at : Reader Frame
ack_at = do
  fields ← pair_at (number_at 4) (number_at 4)
  done (Ack fields.0 fields.1)

-- a frame; any other first byte is a bad value
unfoldable pub frame_at : Reader Frame
frame_at = do
  place ← place_at
  code ← number_at 1
  (if code == 128 then payload_at else (if code == 129 then ack_at else refused place BadValue))

-- the frame that bytes are, where they are exactly one frame
unfoldable pub only_frame : List ℕ → Option Frame
only_frame bytes = result_ok (whole_of frame_at bytes)
