-- The parts of a message that is heard.
use Rattle.std.proofs.Common.{◌≡◌, ℕ, ◌+◌, List, ◌++◌, drop, length, Option, Some, None, Result, Ok, Err, refl, sym, ap, subst, ◌∙◌, length-append, arith}
use Rattle.std.specs.Prelude.{IfSome}
use Rattle.std.specs.Option.{option_map}
use Rattle.std.proofs.lemmas.List.{drop_at}
use Rattle.wire_core.specs.declared.bad.Bad.{Bad}
use Rattle.wire_core.specs.Part.{part}
use Rattle.wire_core.specs.Reading.{value_of, number_at}
use Rattle.forwarding_header.specs.declared.header.Header.{Header}
use Rattle.forwarding_header.specs.Header.{header, IsMessage}
use Rattle.node_model.specs.Heard as models
use Rattle.message_courses.specs.Heard.{IsEnvelopeOf}
use Rattle.message_courses.specs.Seen.{seen}
use Rattle.message_courses.specs.declared.hearing.Envelope.{Envelope}

-- what is behind a message's header
behind_length : (message : List ℕ) (h : Header) (place : ℕ) → IsMessage h message
    → place ≡ length (header h) → length message ≡ length (header h) + length (drop place message)
behind_length message h place m e =
    let rest : List ℕ = m.begins.0 in
    let text : message ≡ header h ++ rest = m.begins.1 in
    let is : drop place message ≡ rest =
    ap (drop place) text ∙ drop_at (header h) rest place (sym e) in
    omega (arith, ap length text, ap length is, length-append (header h) rest)

made_of : (message behind : List ℕ) (h : Header) (place : ℕ) (r : Result ℕ Bad) (e : models.Envelope)
    → IsMessage h message → place ≡ length (header h) → behind ≡ drop place message
    → value_of (number_at 2 (part 0 behind)) ≡ r → Some e ≡ models.enveloped h behind r
    → IsEnvelopeOf message e
made_of message behind h place (Ok code) e m at rest read is =
    let same : e ≡ record { header = h; code = code; behind = behind } = cc in
    let len = behind_length message h place m at in
    subst (IsEnvelopeOf message) (sym same) (record {
      is_spelled = m.is_spelled;
      in_range = m.in_range;
      coded = read;
      whole = omega (arith, len, ap length rest);
      within = omega (arith, m.length_is, m.within);
    })
made_of message behind h place (Err bad) e m at rest read is = absurd cc

-- an envelope that is made of a message with this header
pub parts_of : (message behind : List ℕ) (h : Header) (place : ℕ) (o : Option Envelope)
    → IsMessage h message × (place ≡ length (header h)) → behind ≡ drop place message
    → option_map seen o ≡ models.enveloped h behind (value_of (number_at 2 (part 0 behind)))
    → IfSome o (λ x. IsEnvelopeOf message (seen x))
parts_of message behind h place (Some x) m rest is =
    made_of message behind h place (value_of (number_at 2 (part 0 behind))) (seen x) m.0 m.1 rest
    refl is
parts_of message behind h place None m rest is = tt
