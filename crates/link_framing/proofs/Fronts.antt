-- What is read at the front of bytes, in each case.
use Rattle.std.proofs.Common.{◌≡◌, ℕ, ◌+◌, ◌^◌, ◌<◌, ◌≤◌, inl, inr, true, false, ltb, leb, List, [], ◌∷◌, length, get_or, take, drop, Ok, Err, refl, ap, ◌∙◌, lit<, arith}
use Rattle.std.proofs.lemmas.Bool.{le-ltb, lt-ltb, le-leb, lt-leb, cases_lt}
use Rattle.std.proofs.lemmas.List.{length-drop, drop-drop, get_or-drop, get_or-take}
use Rattle.byteorder.specs.Endian.{big_number}
use Rattle.wire_core.specs.declared.bad.Bad.{Bad}
use Rattle.wire_core.specs.declared.bad.Reason.{Reason}
use Rattle.wire_core.specs.declared.bad.Reason.TheVariants.{Short, LengthPast, TooLarge}
use Rattle.wire_core.specs.Part.{Part, part}
use Rattle.wire_core.specs.Reading.{allowed, place_at, bytes_at, number_at, limited_at, stretch_at, filled_at, pair_at}
use Rattle.wire_core.specs.Spelling.{AreBytes}
use Rattle.wire_core.specs.declared.limits.TheConstants.{MAX_MESSAGE}
use Rattle.link_framing.specs.declared.frame.Frame.{Frame}
use Rattle.link_framing.specs.declared.frame.Frame.TheVariants.{Payload, Ack}
use Rattle.link_framing.specs.Reading.{carried_at, payload_at, ack_at, frame_at}
use Rattle.link_framing.specs.Streams.{length_in}
use Rattle.link_framing.proofs.Layouts.{behind_code}

abbrev bad : ℕ → Reason → Bad
bad place reason = record { place = place; reason = reason }

-- a number that isn't there, and one that is
number_short : (n place : ℕ) (bytes : List ℕ) → length bytes < n → number_at n (part place bytes) ≡ Err (bad (place + length bytes) Short)
unfolding number_at bytes_at
number_short n place bytes lt = let e : ltb (length bytes) n ≡ true = lt-ltb _ _ lt in rw e refl

number_there : (n place : ℕ) (bytes : List ℕ) → n ≤ length bytes → number_at n (part place bytes) ≡ Ok (big_number n (take n bytes), part (place + n) (drop n bytes))
unfolding number_at bytes_at
number_there n place bytes le = let e : ltb (length bytes) n ≡ false = le-ltb _ _ le in rw e refl

-- the length's bytes as a number
pub length_there : (b : ℕ) (tail : List ℕ) → 7 ≤ length tail → big_number 3 (take 3 (drop 4 tail)) ≡ length_in (b ∷ tail)
length_there b tail le =
    let at : (i : ℕ) → i < 3 → get_or (take 3 (drop 4 tail)) i 0 ≡ get_or tail (4 + i) 0 = λ i lt. get_or-take 3 (drop 4 tail) i 0 lt ∙ get_or-drop 4 tail i 0 in
    omega (arith, at 0 (lit< tt), at 1 (lit< tt), at 2 (lit< tt))

length_in_lt : (b : ℕ) (tail : List ℕ) → AreBytes tail → length_in (b ∷ tail) < 256 ^ 3
length_in_lt b tail fits = omega (arith, fits 4, fits 5, fits 6)

-- ---- a payload behind its first byte

no_sequence : (place : ℕ) (tail : List ℕ) → length tail < 4 → payload_at (part place tail) ≡ Err (bad (place + length tail) Short)
unfolding payload_at pair_at
no_sequence place tail lt = let e = number_short 4 place tail lt in rw e refl

no_length : (place : ℕ) (tail : List ℕ) → 4 ≤ length tail → length tail < 7 → payload_at (part place tail) ≡ Err (bad (place + 4 + length (drop 4 tail)) Short)
unfolding payload_at pair_at carried_at place_at limited_at
no_length place tail le lt =
    let a = number_there 4 place tail le in
    let b = number_short 3 (place + 4) (drop 4 tail) (omega (arith, length-drop 4 tail)) in
    rw (a, b) refl

pub payload_short : (place : ℕ) (tail : List ℕ) → length tail < 7 → (at : ℕ) × (payload_at (part place tail) ≡ Err (bad at Short))
payload_short place tail lt =
    elim (cases_lt (length tail) 4) [
      | inl few ↦ (_, no_sequence place tail few)
      | inr le ↦ (_, no_length place tail le lt)
    ]

module _ (b place : ℕ) (tail : List ℕ) (there : 7 ≤ length tail) where
  sequence_there : number_at 4 (part place tail) ≡ Ok (big_number 4 (take 4 tail), part (place + 4) (drop 4 tail))
  sequence_there = number_there 4 place tail (omega arith)

  three_there : number_at 3 (part (place + 4) (drop 4 tail)) ≡ Ok (length_in (b ∷ tail), part (place + 4 + 3) (drop 7 tail))
  three_there =
      let len = number_there 3 (place + 4) (drop 4 tail) (omega (arith, length-drop 4 tail)) in
      len ∙ ap (λ (x : ℕ). Ok (x, part (place + 4 + 3) (drop 3 (drop 4 tail)))) (length_there b tail there) ∙ ap (λ (rest : List ℕ). Ok (length_in (b ∷ tail), part (place + 4 + 3) rest)) (drop-drop 3 4 tail)

  pub payload_large : MAX_MESSAGE < length_in (b ∷ tail) → payload_at (part place tail) ≡ Err (bad (place + 4) TooLarge)
  unfolding payload_at pair_at carried_at place_at limited_at allowed
  payload_large large = let e : leb (length_in (b ∷ tail)) MAX_MESSAGE ≡ false = lt-leb _ _ large in rw (sequence_there, three_there, e) refl

  pub payload_past : length_in (b ∷ tail) ≤ MAX_MESSAGE → length tail < 7 + length_in (b ∷ tail) → payload_at (part place tail) ≡ Err (bad (place + 4) LengthPast)
  unfolding payload_at pair_at carried_at place_at limited_at allowed filled_at stretch_at
  payload_past within lt =
      let e : leb (length_in (b ∷ tail)) MAX_MESSAGE ≡ true = le-leb _ _ within in
      let f : ltb (length (drop 7 tail)) (length_in (b ∷ tail)) ≡ true = lt-ltb _ _ (omega (arith, length-drop 7 tail)) in
      rw (sequence_there, three_there, e, f) refl

  pub payload_whole : length_in (b ∷ tail) ≤ MAX_MESSAGE → 7 + length_in (b ∷ tail) ≤ length tail → (x : Frame × Part) × (payload_at (part place tail) ≡ Ok x)
  unfolding payload_at pair_at carried_at place_at limited_at allowed filled_at stretch_at
  payload_whole within le =
      let len = length_in (b ∷ tail) in
      let e : leb (length_in (b ∷ tail)) MAX_MESSAGE ≡ true = le-leb _ _ within in
      let f : ltb (length (drop 7 tail)) (length_in (b ∷ tail)) ≡ false = le-ltb _ _ (omega (arith, length-drop 7 tail)) in
      ((Payload (big_number 4 (take 4 tail)) (take len (drop 7 tail)), part (place + 4 + 3 + len) (drop len (drop 7 tail))), rw (sequence_there, three_there, e, f) refl)

-- ---- an ack behind its first byte

pub ack_short : (place : ℕ) (tail : List ℕ) → length tail < 8 → (at : ℕ) × (ack_at (part place tail) ≡ Err (bad at Short))
unfolding ack_at pair_at
ack_short place tail lt =
    elim (cases_lt (length tail) 4) [
      | inl few ↦ (place + length tail, let e = number_short 4 place tail few in rw e refl)
      | inr le ↦ (place + 4 + length (drop 4 tail), let a = number_there 4 place tail le in let b = number_short 4 (place + 4) (drop 4 tail) (omega (arith, length-drop 4 tail)) in rw (a, b) refl)
    ]

pub ack_whole : (place : ℕ) (tail : List ℕ) → 8 ≤ length tail → (x : Frame × Part) × (ack_at (part place tail) ≡ Ok x)
unfolding ack_at pair_at
ack_whole place tail le =
    let a = number_there 4 place tail (omega arith) in
    let b = number_there 4 (place + 4) (drop 4 tail) (omega (arith, length-drop 4 tail)) in
    ((Ack (big_number 4 (take 4 tail)) (big_number 4 (take 4 (drop 4 tail))), part (place + 4 + 4) (drop 4 (drop 4 tail))), rw (a, b) refl)

-- ---- from the first byte on

pub frame_none : (place : ℕ) → frame_at (part place []) ≡ Err (bad place Short)
unfolding frame_at place_at
frame_none place = let e = number_short 1 place [] (lit< tt) in let at : place + 0 ≡ place = omega arith in rw (e, at) refl

pub frame_some : (place b : ℕ) (tail : List ℕ) → frame_at (part place (b ∷ tail)) ≡ behind_code place b (part (place + 1) tail)
unfolding frame_at place_at
frame_some place b tail =
    let e = number_there 1 place (b ∷ tail) (omega arith) in
    let one : big_number 1 (take 1 (b ∷ tail)) ≡ b = omega arith in
    rw (e, one) refl
