-- A payload's frame is read as its message, and an ack's as none.
use Rattle.std.proofs.Common.{◌≡◌, ℕ, List, ◌++◌, take, drop, length, Option, Some, None, Result, Ok, Err, refl, sym, ap, ◌∙◌, append_assoc, arith}
use Rattle.std.proofs.Math.ListN.{get_or}
use Rattle.std.proofs.Transfers.{drop-appended}
use Rattle.std.proofs.lemmas.List.{length-append, take_at}
use Rattle.wire_core.specs.declared.bad.Bad.{Bad}
use Rattle.wire_core.specs.Spelling.{AreBytes, number, vector}
use Rattle.wire_core.specs.Laws.Bytes.{length-number}
use Rattle.wire_core.specs.Reading.{whole_of}
use Rattle.wire_core.proofs.Decoders.{whole_takes}
use Rattle.link_framing.specs.declared.frame.Frame.{Frame}
use Rattle.link_framing.specs.declared.frame.Frame.TheVariants.{Payload, Ack}
use Rattle.link_framing.specs.Framing.{frame}
use Rattle.link_framing.specs.Reading.{frame_at}
use Rattle.link_framing.proofs.Layouts.{frame_laid}
use Rattle.node_model.specs.Heard.{carried, payload_in}

-- what stands in front of a payload's message
abbrev front : ℕ → ℕ → List ℕ
front s n = number 1 128 ++ (number 4 s ++ number 3 n)

length-front : (s n : ℕ) → length (front s n) ≡ 8
length-front s n =
    omega (arith, length-append (number 1 128) (number 4 s ++ number 3 n), length-append (number 4 s) (number 3 n), length-number 1 128, length-number 4 s, length-number 3 n)

in_front : (s : ℕ) (m : List ℕ) → frame (Payload s m) ≡ front s (length m) ++ m
unfolding frame
in_front s m =
    ap (λ t. number 1 128 ++ t) (sym (append_assoc (number 4 s) (number 3 (length m)) m))
    ∙ sym (append_assoc (number 1 128) (number 4 s ++ number 3 (length m)) m)

behind_front : (s : ℕ) (m : List ℕ) → drop 8 (frame (Payload s m)) ≡ m
behind_front s m =
    ap (λ n. drop n (frame (Payload s m))) (sym (length-front s (length m)))
    ∙ drop-appended (front s (length m)) (frame (Payload s m)) m (in_front s m)

-- the frame that is read has the bytes
carried_frame : (bytes : List ℕ) (r : Result Frame Bad) (x : ℕ × List ℕ) → AreBytes bytes → whole_of frame_at bytes ≡ r → carried r ≡ Some x → bytes ≡ frame (Payload x.0 x.1)
carried_frame bytes (Ok (Payload s m)) x are e is =
    let t = whole_takes frame_laid bytes (Payload s m) are e in
    let same : (s, m) ≡ x = cc in
    t.1 ∙ ap (λ (y : ℕ × List ℕ). frame (Payload y.0 y.1)) same
carried_frame bytes (Ok (Ack s mask)) x are e is = absurd cc
carried_frame bytes (Err bad) x are e is = absurd cc

pub carried_message : (s : ℕ) (m : List ℕ) (x : ℕ × List ℕ) → AreBytes (frame (Payload s m)) → payload_in (frame (Payload s m)) ≡ Some x → x.1 ≡ m
unfolding payload_in
carried_message s m x are is =
    let same = carried_frame (frame (Payload s m)) (whole_of frame_at (frame (Payload s m))) x are refl is in
    sym (behind_front x.0 x.1) ∙ ap (drop 8) (sym same) ∙ behind_front s m

-- an ack is no payload: its first byte is another
first_byte : number 1 129 ≡ number 1 128 → ⊥
unfolding number
first_byte e =
    let same : 129 ≡ 128 = ap (λ (bs : List ℕ). get_or bs 0 0) e in
    omega (arith, same)

no_ack : (s mask t : ℕ) (m : List ℕ) → frame (Ack s mask) ≡ frame (Payload t m) → ⊥
unfolding frame
no_ack s mask t m e =
    first_byte
    (sym (take_at (number 1 129) (number 4 s ++ number 4 mask) 1 (length-number 1 129))
    ∙ ap (take 1) e ∙ take_at (number 1 128) (number 4 t ++ vector 3 m) 1 (length-number 1 128))

carried_ack : (s mask : ℕ) (o : Option (ℕ × List ℕ)) → AreBytes (frame (Ack s mask)) → payload_in (frame (Ack s mask)) ≡ o → o ≡ None
unfolding payload_in
carried_ack s mask None are is = refl
carried_ack s mask (Some x) are is =
    absurd (no_ack s mask x.0 x.1 (carried_frame (frame (Ack s mask)) (whole_of frame_at (frame (Ack s mask))) x are refl is))

pub no_message : (s mask : ℕ) → AreBytes (frame (Ack s mask)) → payload_in (frame (Ack s mask)) ≡ None
no_message s mask are = carried_ack s mask (payload_in (frame (Ack s mask))) are refl
