-- The payload that bytes are, of the frame that they are.
use Rattle.std.proofs.Common.{◌≡◌, ℕ, List, refl, ap, ◌∙◌}
use Rattle.std.specs.Prelude.{Option, Some, None, Result, Ok, Err}
use Rattle.std.specs.Result.{result_ok}
use Rattle.wire_core.specs.declared.bad.Bad.{Bad}
use Rattle.wire_core.specs.Reading.{whole_of}
use Rattle.link_framing.specs.declared.frame.Frame.{Frame}
use Rattle.link_framing.specs.declared.frame.Frame.TheVariants.{Payload, Ack}
use Rattle.link_framing.specs.Reading.{frame_at, only_frame}
use Rattle.node_model.specs.Heard.{carried, payload_in}

abbrev pub carried_by : Option Frame → Option (ℕ × List ℕ)
carried_by (Some (Payload sequence message)) = Some (sequence, message)
carried_by (Some (Ack sequence received)) = None
carried_by None = None

carried_ok : (r : Result Frame Bad) → carried_by (result_ok r) ≡ carried r
carried_ok (Ok (Payload sequence message)) = refl
carried_ok (Ok (Ack sequence received)) = refl
carried_ok (Err bad) = refl

pub payload_is : (bytes : List ℕ) (o : Option Frame) → o ≡ only_frame bytes → carried_by o ≡ payload_in bytes
unfolding only_frame payload_in
payload_is bytes o is = ap carried_by is ∙ carried_ok (whole_of frame_at bytes)
