-- What bytes may begin with: a frame, less than a frame, or a fault, and one of them alone.
use Rattle.std.proofs.Common.{◌≡◌, ℕ, zero, suc, ◌+◌, ◌-◌, ◌%◌, ◌<◌, ◌≤◌, inl, inr, true, false, cond, eqb, List, [], ◌∷◌, ◌++◌, length, get_or, take, drop, replicate, Result, Ok, Err, refl, sym, ap, subst, ◌∙◌, append_assoc, append-nil, length-append, lit<, arith}
use Rattle.std.proofs.lemmas.Bool.{eqb-true, eqb-false, ne_eqb, eq-eqb, cases_lt}
use Rattle.std.proofs.lemmas.List.{length-take, length-drop, length-replicate, take-append-drop, drop-drop, get_or_append_left}
use Rattle.byteorder.specs.Endian.{big_number}
use Rattle.wire_core.specs.declared.bad.Bad.{Bad}
use Rattle.wire_core.specs.declared.bad.Reason.TheVariants.{BadValue}
use Rattle.wire_core.specs.Part.{Part, part}
use Rattle.wire_core.specs.Spelling.{number, AreBytes}
use Rattle.wire_core.specs.Reading.{refused}
use Rattle.wire_core.specs.Laws.Bytes.{AreBytes-take, AreBytes-rest, AreBytes-behind, length-number, number-big_number, big_number-lt}
use Rattle.wire_core.specs.declared.limits.TheConstants.{MAX_MESSAGE}
use Rattle.link_framing.specs.declared.frame.Frame.{Frame}
use Rattle.link_framing.specs.declared.frame.Frame.TheVariants.{Payload, Ack}
use Rattle.link_framing.specs.Framing.{frame, IsFrame}
use Rattle.link_framing.specs.Reading.{payload_at, ack_at, frame_at}
use Rattle.link_framing.specs.Finds.{Says}
use Rattle.link_framing.specs.Streams.{BeginsWith, IsFront, IsPartial, IsBadType, IsTooLarge, length_in}
use Rattle.link_framing.proofs.Layouts.{behind_code, frame_again, frame_once}
use Rattle.link_framing.proofs.Fronts.{length_there, payload_short, payload_large, payload_past, payload_whole, ack_short, ack_whole, frame_none, frame_some}

-- ---- bytes that a frame may have, made whole by zeros

pub AreBytes-append : (xs ys : List ℕ) → AreBytes xs → AreBytes ys → AreBytes (xs ++ ys)
AreBytes-append [] ys f g i = g i
AreBytes-append (x ∷ xs) ys f g zero = f zero
AreBytes-append (x ∷ xs) ys f g (suc i) = AreBytes-append xs ys (AreBytes-rest x xs f) g i

pub AreBytes-zeros : (n : ℕ) → AreBytes (replicate n 0)
AreBytes-zeros zero i = lit< tt
AreBytes-zeros (suc n) zero = lit< tt
AreBytes-zeros (suc n) (suc i) = AreBytes-zeros n i

AreBytes-drop : (n : ℕ) (bytes : List ℕ) → AreBytes bytes → AreBytes (drop n bytes)
AreBytes-drop n bytes fits = AreBytes-behind (take n bytes) (drop n bytes) (subst AreBytes (sym (take-append-drop n bytes)) fits)

pub one_byte : (b : ℕ) → b < 256 → number 1 b ≡ b ∷ []
unfolding number
one_byte b lt = let e : b % 256 ≡ b = omega arith in grind (arith, e)

payload_front : (tail : List ℕ) → AreBytes tail → 7 ≤ length tail → length_in (128 ∷ tail) ≤ MAX_MESSAGE → length tail < 7 + length_in (128 ∷ tail) → IsFront (128 ∷ tail)
unfolding frame
payload_front tail fits there within lt =
    let len = length_in (128 ∷ tail) in
    let k = 7 + len - length tail in
    let zeros = replicate k 0 in
    let message = drop 7 tail ++ zeros in
    let sequence = big_number 4 (take 4 tail) in
    let filled : length message ≡ len = omega (arith, length-append (drop 7 tail) zeros, length-drop 7 tail, length-replicate {A = ℕ} k 0) in
    let four : number 4 sequence ≡ take 4 tail = number-big_number 4 (take 4 tail) (omega (arith, length-take 4 tail)) (AreBytes-take 4 tail fits) in
    let three : number 3 len ≡ take 3 (drop 4 tail) = ap (number 3) (sym (length_there 128 tail there))
    ∙ number-big_number 3 (take 3 (drop 4 tail)) (omega (arith, length-take 3 (drop 4 tail), length-drop 4 tail)) (AreBytes-take 3 (drop 4 tail) (AreBytes-drop 4 tail fits)) in
    let text : take 4 tail ++ (take 3 (drop 4 tail) ++ drop 7 tail) ≡ tail =
    ap (λ (r : List ℕ). take 4 tail ++ r) (ap (λ (r : List ℕ). take 3 (drop 4 tail) ++ r) (sym (drop-drop 3 4 tail)) ∙ take-append-drop 3 (drop 4 tail)) ∙ take-append-drop 4 tail in
    let regrouped : take 4 tail ++ (take 3 (drop 4 tail) ++ (drop 7 tail ++ zeros)) ≡ (take 4 tail ++ (take 3 (drop 4 tail) ++ drop 7 tail)) ++ zeros = simp append_assoc in
    record {
      whole = Payload sequence message;
      missing = zeros;
      fits = (big_number-lt 4 (take 4 tail) (AreBytes-take 4 tail fits), omega (arith, filled), AreBytes-append (drop 7 tail) zeros (AreBytes-drop 7 tail fits) (AreBytes-zeros k));
      some = omega (arith, length-replicate {A = ℕ} k 0);
      spelled = ap (λ (n : ℕ). number 1 128 ++ (number 4 sequence ++ (number 3 n ++ message))) filled
          ∙ ap (λ (r : List ℕ). number 1 128 ++ (r ++ (number 3 len ++ message))) four
          ∙ ap (λ (r : List ℕ). number 1 128 ++ (take 4 tail ++ (r ++ message))) three
          ∙ ap (λ (r : List ℕ). r ++ (take 4 tail ++ (take 3 (drop 4 tail) ++ message))) (one_byte 128 (lit< tt))
          ∙ ap (λ (r : List ℕ). 128 ∷ r) (regrouped ∙ ap (λ (r : List ℕ). r ++ zeros) text);
    }

ack_front : (tail : List ℕ) → AreBytes tail → length tail < 8 → IsFront (129 ∷ tail)
unfolding frame
ack_front tail fits lt =
    let k = 8 - length tail in
    let zeros = replicate k 0 in
    let full = tail ++ zeros in
    let bytes = AreBytes-append tail zeros fits (AreBytes-zeros k) in
    let eight : length full ≡ 8 = omega (arith, length-append tail zeros, length-replicate {A = ℕ} k 0) in
    let first : number 4 (big_number 4 (take 4 full)) ≡ take 4 full = number-big_number 4 (take 4 full) (omega (arith, length-take 4 full)) (AreBytes-take 4 full bytes) in
    let second : number 4 (big_number 4 (drop 4 full)) ≡ drop 4 full = number-big_number 4 (drop 4 full) (omega (arith, length-drop 4 full)) (AreBytes-drop 4 full bytes) in
    record {
      whole = Ack (big_number 4 (take 4 full)) (big_number 4 (drop 4 full));
      missing = zeros;
      fits = (big_number-lt 4 (take 4 full) (AreBytes-take 4 full bytes), big_number-lt 4 (drop 4 full) (AreBytes-drop 4 full bytes));
      some = omega (arith, length-replicate {A = ℕ} k 0);
      spelled = ap (λ (r : List ℕ). number 1 129 ++ (r ++ number 4 (big_number 4 (drop 4 full)))) first
          ∙ ap (λ (r : List ℕ). number 1 129 ++ (take 4 full ++ r)) second
          ∙ ap (λ (r : List ℕ). number 1 129 ++ r) (take-append-drop 4 full)
          ∙ ap (λ (r : List ℕ). r ++ full) (one_byte 129 (lit< tt));
    }

-- nothing is less than a frame
pub empty_front : IsFront []
unfolding frame
empty_front = record {
  whole = Ack 0 0;
  missing = frame (Ack 0 0);
  fits = (lit< tt, lit< tt);
  some = omega (arith, length-append (number 1 129) (number 4 0 ++ number 4 0), length-number 1 129);
  spelled = refl;
}

-- ---- what a fault of the reading says of the bytes

abbrev pub Judged : ℕ → List ℕ → Result (Frame × Part) Bad → Type 0
Judged place bytes (Ok x) = Unit {0}
Judged place bytes (Err fault) = Says place bytes fault.place fault.reason

payload_judged : (place : ℕ) (tail : List ℕ) → AreBytes tail → Judged place (128 ∷ tail) (payload_at (part (place + 1) tail))
payload_judged place tail fits =
    elim (cases_lt (length tail) 7) [
      | inl few ↦ let e = payload_short (place + 1) tail few in rw e.1 (inr (refl, omega arith))
      | inr there ↦ elim (cases_lt MAX_MESSAGE (length_in (128 ∷ tail))) [
        | inl large ↦ rw (payload_large 128 (place + 1) tail there large) (record { code = refl; there = omega arith; large = large }, omega arith)
        | inr within ↦ elim (cases_lt (length tail) (7 + length_in (128 ∷ tail))) [
          | inl lt ↦ rw (payload_past 128 (place + 1) tail there within lt) (inl (payload_front tail fits there within lt))
          | inr le ↦ let e = payload_whole 128 (place + 1) tail there within le in rw e.1 tt
        ]
      ]
    ]

ack_judged : (place : ℕ) (tail : List ℕ) → AreBytes tail → Judged place (129 ∷ tail) (ack_at (part (place + 1) tail))
ack_judged place tail fits =
    elim (cases_lt (length tail) 8) [
      | inl lt ↦ let e = ack_short (place + 1) tail lt in rw e.1 (inl (ack_front tail fits lt))
      | inr le ↦ let e = ack_whole (place + 1) tail le in rw e.1 tt
    ]

code_judged : (place b : ℕ) (tail : List ℕ) → AreBytes tail → Judged place (b ∷ tail) (behind_code place b (part (place + 1) tail))
code_judged place b tail fits =
    elim (eqb b 128) as (λ t. eqb b 128 ≡ t → Judged place (b ∷ tail) (cond t payload_at (cond (eqb b 129) ack_at (refused place BadValue)) (part (place + 1) tail))) [
      | true ↦ λ is. subst (λ (c : ℕ). Judged place (c ∷ tail) (payload_at (part (place + 1) tail))) (sym (eqb-true b 128 is)) (payload_judged place tail fits)
      | false ↦ λ not_one. elim (eqb b 129) as (λ t. eqb b 129 ≡ t → Judged place (b ∷ tail) (cond t ack_at (refused place BadValue) (part (place + 1) tail))) [
        | true ↦ λ is. subst (λ (c : ℕ). Judged place (c ∷ tail) (ack_at (part (place + 1) tail))) (sym (eqb-true b 129 is)) (ack_judged place tail fits)
        | false ↦ λ not_two. ((eqb-false b 128 not_one, eqb-false b 129 not_two), refl)
      ] refl
    ] refl

pub judged : (place : ℕ) (bytes : List ℕ) → AreBytes bytes → Judged place bytes (frame_at (part place bytes))
judged place [] fits = rw (frame_none place) (inl empty_front)
judged place (b ∷ tail) fits = rw (frame_some place b tail) (code_judged place b tail (AreBytes-rest b tail fits))

-- ---- one of them alone

bad_type_read : (place : ℕ) (bytes : List ℕ) → IsBadType bytes → (fault : Bad) × (frame_at (part place bytes) ≡ Err fault)
bad_type_read place [] is = absurd is
bad_type_read place (b ∷ tail) is =
    let one : eqb b 128 ≡ false = ne_eqb b 128 is.0 in
    let two : eqb b 129 ≡ false = ne_eqb b 129 is.1 in
    (record { place = place; reason = BadValue }, frame_some place b tail ∙ rw (one, two) refl)

-- a payload that can't be read
payload_fault : (place b : ℕ) (tail : List ℕ) (fault : Bad) → b ≡ 128 → payload_at (part (place + 1) tail) ≡ Err fault → frame_at (part place (b ∷ tail)) ≡ Err fault
payload_fault place b tail fault is e = let one : eqb b 128 ≡ true = eq-eqb b 128 is in frame_some place b tail ∙ rw (one, e) refl

too_large_read : (place : ℕ) (bytes : List ℕ) → IsTooLarge bytes → (fault : Bad) × (frame_at (part place bytes) ≡ Err fault)
too_large_read place [] is = absurd is.code
too_large_read place (b ∷ tail) is = (_, payload_fault place b tail _ is.code (payload_large b (place + 1) tail (omega (arith, is.there)) is.large))

short_read : (place : ℕ) (bytes : List ℕ) → BeginsWith 128 bytes → length bytes < 8 → (fault : Bad) × (frame_at (part place bytes) ≡ Err fault)
short_read place [] is lt = absurd is
short_read place (b ∷ tail) is lt = let e = payload_short (place + 1) tail (omega arith) in (_, payload_fault place b tail _ is e.1)

-- no fault comes where a frame stands
never : (f : Frame) (rest bytes : List ℕ) → IsFrame f → bytes ≡ frame f ++ rest → (fault : Bad) × (frame_at (part 0 bytes) ≡ Err fault) → ⊥
never f rest bytes fits spelled e = let read = frame_again 0 f rest fits in let there = subst (λ (b : List ℕ). frame_at (part 0 b) ≡ Err e.0) spelled e.1 in cc

pub frame_not_bad : (f : Frame) (rest bytes : List ℕ) → IsFrame f → bytes ≡ frame f ++ rest → IsBadType bytes → ⊥
frame_not_bad f rest bytes fits spelled is = never f rest bytes fits spelled (bad_type_read 0 bytes is)

pub frame_not_large : (f : Frame) (rest bytes : List ℕ) → IsFrame f → bytes ≡ frame f ++ rest → IsTooLarge bytes → ⊥
frame_not_large f rest bytes fits spelled is = never f rest bytes fits spelled (too_large_read 0 bytes is)

pub frame_not_partial : (f : Frame) (rest bytes : List ℕ) → IsFrame f → bytes ≡ frame f ++ rest → IsPartial bytes → ⊥
frame_not_partial f rest bytes fits spelled (inl front) =
    let whole : frame front.whole ++ [] ≡ frame f ++ (rest ++ front.missing) =
    append-nil (frame front.whole) ∙ front.spelled ∙ ap (λ (b : List ℕ). b ++ front.missing) spelled ∙ append_assoc (frame f) rest front.missing in
    let same = frame_once front.whole f [] (rest ++ front.missing) front.fits fits whole in
    absurd (omega (arith, ap length same.1, length-append rest front.missing, front.some))
frame_not_partial f rest bytes fits spelled (inr short) = never f rest bytes fits spelled (short_read 0 bytes short.0 short.1)

-- a fault stays one, whatever follows
pub bad_type_more : (bytes more : List ℕ) → IsBadType bytes → IsBadType (bytes ++ more)
bad_type_more [] more is = absurd is
bad_type_more (b ∷ bytes) more is = is

BeginsWith-more : (code : ℕ) (bytes more : List ℕ) → BeginsWith code bytes → BeginsWith code (bytes ++ more)
BeginsWith-more code [] more is = absurd is
BeginsWith-more code (b ∷ bytes) more is = is

length_in-more : (bytes more : List ℕ) → 8 ≤ length bytes → length_in (bytes ++ more) ≡ length_in bytes
length_in-more bytes more le =
    let at : (i : ℕ) → i < 8 → get_or (bytes ++ more) i 0 ≡ get_or bytes i 0 = λ i lt. get_or_append_left bytes more 0 i (omega arith) in
    omega (arith, at 5 (lit< tt), at 6 (lit< tt), at 7 (lit< tt))

pub too_large_more : (bytes more : List ℕ) → IsTooLarge bytes → IsTooLarge (bytes ++ more)
too_large_more bytes more is = record {
  code = BeginsWith-more 128 bytes more is.code;
  there = omega (arith, is.there, length-append bytes more);
  large = omega (arith, is.large, length_in-more bytes more is.there);
}

not_both_types : (bytes : List ℕ) → BeginsWith 128 bytes → IsBadType bytes → ⊥
not_both_types [] is bad = is
not_both_types (b ∷ bytes) is bad = bad.0 is

pub partial_not_bad : (bytes : List ℕ) → IsPartial bytes → IsBadType bytes → ⊥
partial_not_bad bytes (inl front) is =
    frame_not_bad front.whole [] (bytes ++ front.missing) front.fits (sym front.spelled ∙ sym (append-nil (frame front.whole))) (bad_type_more bytes front.missing is)
partial_not_bad bytes (inr short) is = not_both_types bytes short.0 is

pub partial_not_large : (bytes : List ℕ) → IsPartial bytes → IsTooLarge bytes → ⊥
partial_not_large bytes (inl front) is =
    frame_not_large front.whole [] (bytes ++ front.missing) front.fits (sym front.spelled ∙ sym (append-nil (frame front.whole))) (too_large_more bytes front.missing is)
partial_not_large bytes (inr short) is = omega (arith, short.1, is.there)

pub bad_not_large : (bytes : List ℕ) → IsBadType bytes → IsTooLarge bytes → ⊥
bad_not_large bytes bad is = not_both_types bytes is.code bad
