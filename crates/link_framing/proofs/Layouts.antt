-- A frame as it is read and as it is spelled.
use Rattle.std.proofs.Common.{◌≡◌, ℕ, ◌+◌, ◌^◌, ◌<◌, ◌≤◌, cond, eqb, List, ◌++◌, length, Ok, refl, sym, ap, ◌∙◌, lit<, arith}
use Rattle.std.proofs.lemmas.List.{append-nil}
use Rattle.wire_core.specs.declared.limits.TheConstants.{MAX_MESSAGE}
use Rattle.wire_core.specs.declared.bad.Reason.TheVariants.{BadValue}
use Rattle.wire_core.specs.Part.{Part, part}
use Rattle.wire_core.specs.Spelling.{number, vector, AreBytes}
use Rattle.wire_core.specs.Reading.{Reader, refused, number_at, pair_at}
use Rattle.wire_core.specs.Layout.{Follows, IsLayout}
use Rattle.wire_core.specs.Laws.Steps.{laid, ok_is, Anything, Always, Lays, seq, done_laid, laid_as, fits_as, spelled_as, placed}
use Rattle.wire_core.specs.Laws.Forms.{HasCode, Takes, Again, takes_made, takes_code, takes_none, again_made, forms_laid}
use Rattle.wire_core.specs.Laws.Words.{number_laid, limited_laid, filled_laid, rest_laid}
use Rattle.link_framing.specs.declared.frame.Frame.{Frame}
use Rattle.link_framing.specs.declared.frame.Frame.TheVariants.{Payload, Ack}
use Rattle.link_framing.specs.Framing.{frame, IsFrame}
use Rattle.link_framing.specs.Reading.{carried_at, payload_at, ack_at, frame_at}

-- the first byte
code_of : Frame → ℕ
code_of f = elim f [ Payload sequence message ↦ 128 | Ack sequence received ↦ 129 ]

-- what is behind it
body : Frame → List ℕ
body f = elim f [ Payload sequence message ↦ number 4 sequence ++ vector 3 message | Ack sequence received ↦ number 4 sequence ++ number 4 received ]

body-code : (f : Frame) → number 1 (code_of f) ++ body f ≡ frame f
unfolding frame code_of body
body-code (Payload sequence message) = refl
body-code (Ack sequence received) = refl

code_of-lt : (f : Frame) → code_of f < 256
unfolding code_of
code_of-lt (Payload sequence message) = lit< tt
code_of-lt (Ack sequence received) = lit< tt

-- what a payload carries
abbrev Carried : List ℕ → Type 0
Carried m = ((length m < 256 ^ 3) × (length m ≤ MAX_MESSAGE)) × AreBytes m

-- what is read behind the first byte
abbrev pub behind_code : ℕ → ℕ → Reader Frame
behind_code place code = cond (eqb code 128) payload_at (cond (eqb code 129) ack_at (refused place BadValue))

module _ {n : ℕ} where
  carried_lays : Lays n Anything Always Carried (vector 3) carried_at
  unfolding carried_at
  carried_lays =
      placed (λ place le. seq {Known = Always} (λ m. length m) (limited_laid 3 MAX_MESSAGE) (λ len lt.
      laid_as _ AreBytes (filled_laid place len le rest_laid) (λ m k f. ((f.1, tt), f.0)) (λ m k f. (tt, (f, k.0)))))

  -- the fields of a payload, and of an ack
  payload_parts : Lays n Anything Always (λ z. (z.0 < 256 ^ 4) × Carried z.1) (λ z. number 4 z.0 ++ vector 3 z.1) (pair_at (number_at 4) carried_at)
  unfolding pair_at
  payload_parts =
      fits_as _ (spelled_as _ (seq {Known = Always} (λ (z : ℕ × List ℕ). z.0) (number_laid 4) (λ s _. seq (λ z. z.1) carried_lays (λ m _.
      done_laid (s, m) (refl, (refl, tt)) (λ z k. λ i. (k.1.0 i, k.0 i)))))
      (λ z k f. ap (λ t. number 4 z.0 ++ t) (append-nil (vector 3 z.1))))
      (λ z k f. (f.0, f.1.0)) (λ z k f. (f.0, (f.1, tt)))

  ack_parts : Lays n Anything Always (λ z. (z.0 < 256 ^ 4) × (z.1 < 256 ^ 4)) (λ z. number 4 z.0 ++ number 4 z.1) (pair_at (number_at 4) (number_at 4))
  unfolding pair_at
  ack_parts =
      fits_as _ (spelled_as _ (seq {Known = Always} (λ (z : ℕ × ℕ). z.0) (number_laid 4) (λ s _. seq (λ z. z.1) (number_laid 4) (λ r _.
      done_laid (s, r) (refl, (refl, tt)) (λ z k. λ i. (k.1.0 i, k.0 i)))))
      (λ z k f. ap (λ t. number 4 z.0 ++ t) (append-nil (number 4 z.1))))
      (λ z k f. (f.0, f.1.0)) (λ z k f. (f.0, (f.1, tt)))

  -- what is read under each code
  forms_take : (place : ℕ) → place ≤ n → (code : ℕ) → code < 256 → Takes n (HasCode code_of code) IsFrame body (behind_code place code)
  unfolding payload_at ack_at code_of body
  forms_take place le code lt =
      takes_code 128 (takes_made (λ z. Payload z.0 z.1) payload_parts (λ z f. ((refl, tt), (f.0, f.1.0.1, f.1.1), refl))) (
      takes_code 129 (takes_made (λ z. Ack z.0 z.1) ack_parts (λ z f. ((refl, tt), (f.0, f.1), refl))) (
      takes_none le))

  -- and what is spelled is read under its code
  forms_again : (place : ℕ) (f : Frame) → IsFrame f → Again n Anything f (body f) (behind_code place (code_of f))
  unfolding payload_at ack_at code_of body
  forms_again place (Payload s m) fits = again_made (λ z. Payload z.0 z.1) payload_parts (s, m) (fits.0, ((omega (arith, fits.1), fits.1), fits.2))
  forms_again place (Ack s r) fits = again_made (λ z. Ack z.0 z.1) ack_parts (s, r) (fits.0, fits.1)

  frame_lays : Lays n Anything Always IsFrame frame frame_at
  unfolding frame_at
  frame_lays =
      let law = placed (λ place le. seq {Known = Always} code_of (number_laid 1) (λ code lt. forms_laid (forms_take place le) (forms_again place) code lt)) in
      spelled_as frame (fits_as IsFrame law (λ f k fits. fits.1) (λ f k fits. (code_of-lt f, fits))) (λ f k fits. body-code f)

pub frame_laid : IsLayout IsFrame frame frame_at
frame_laid = laid (λ n. frame_lays {n = n})

pub frame_takes : (p : Part) (f : Frame) (q : Part) → AreBytes p.bytes → frame_at p ≡ Ok (f, q) → IsFrame f × Follows p (frame f) q
frame_takes = frame_laid.takes

pub frame_again : (place : ℕ) (f : Frame) (rest : List ℕ) → IsFrame f → frame_at (part place (frame f ++ rest)) ≡ Ok (f, part (place + length (frame f)) rest)
frame_again = frame_laid.again

-- no frame's bytes begin another's
pub frame_once : (f g : Frame) (x y : List ℕ) → IsFrame f → IsFrame g → frame f ++ x ≡ frame g ++ y → (f ≡ g) × (x ≡ y)
frame_once f g x y fits also e =
    let same = ok_is _ _ (sym (frame_again 0 f x fits) ∙ ap (λ (bytes : List ℕ). frame_at (part 0 bytes)) e ∙ frame_again 0 g y also) in
    (ap (λ (r : Frame × Part). r.0) same, ap (λ (r : Frame × Part). r.1.bytes) same)
