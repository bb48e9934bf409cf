-- The number that is computed is the number of bytes that are missing.
use Rattle.std.proofs.Common.{◌≡◌, ℕ, zero, suc, ◌+◌, ◌-◌, ◌≤◌, inl, inr, true, false, cond, eqb, leb, List, [], ◌∷◌, ◌++◌, length, get_or, take, drop, replicate, Ok, refl, sym, ap, subst, ◌∙◌, append_assoc, append-nil, length-append, lit<, arith}
use Rattle.std.proofs.lemmas.Bool.{eqb-true, eqb-false, le-leb, lt-leb, cases_lt}
use Rattle.std.proofs.lemmas.List.{length-replicate, take_at, drop_at}
use Rattle.byteorder.specs.Endian.{big_number}
use Rattle.wire_core.specs.Spelling.{number, vector, AreBytes}
use Rattle.wire_core.specs.Part.{part}
use Rattle.wire_core.specs.Laws.Bytes.{length-number, big_number-number}
use Rattle.wire_core.specs.declared.limits.TheConstants.{MAX_MESSAGE}
use Rattle.link_framing.specs.declared.frame.Frame.{Frame}
use Rattle.link_framing.specs.declared.frame.Frame.TheVariants.{Payload, Ack}
use Rattle.link_framing.specs.Framing.{frame, IsFrame}
use Rattle.link_framing.specs.Reading.{frame_at}
use Rattle.link_framing.specs.Streams.{BeginsFrame, BeginsWith, IsBadType, length_in, least_message, least_whole, wanted, IsMissing}
use Rattle.link_framing.proofs.Layouts.{behind_code}
use Rattle.link_framing.proofs.Fronts.{length_there, payload_whole, ack_whole, frame_some}
use Rattle.link_framing.proofs.Cases.{AreBytes-append, AreBytes-zeros, one_byte, frame_not_bad}
use Rattle.link_framing.proofs.Taken.{read_whole}

-- ---- zeros behind bytes

zeros_at : (bytes : List ℕ) (n i : ℕ) → get_or (bytes ++ replicate n 0) i 0 ≡ get_or bytes i 0
zeros_at [] zero i = refl
zeros_at [] (suc n) zero = refl
zeros_at [] (suc n) (suc i) = zeros_at [] n i
zeros_at (b ∷ bytes) n zero = refl
zeros_at (b ∷ bytes) n (suc i) = zeros_at bytes n i

length_in-zeros : (bytes : List ℕ) (n : ℕ) → length_in (bytes ++ replicate n 0) ≡ length_in bytes
length_in-zeros bytes n = omega (arith, zeros_at bytes n 5, zeros_at bytes n 6, zeros_at bytes n 7)

-- a byte that hasn't come counts least
at_least : (bytes more : List ℕ) (i : ℕ) → get_or bytes i 0 ≤ get_or (bytes ++ more) i 0
at_least [] more i = omega arith
at_least (b ∷ bytes) more zero = omega arith
at_least (b ∷ bytes) more (suc i) = at_least bytes more i

length_in-le : (bytes more : List ℕ) → length_in bytes ≤ length_in (bytes ++ more)
length_in-le bytes more = omega (arith, at_least bytes more 5, at_least bytes more 6, at_least bytes more 7)

-- ---- what a frame has at the least

payload_length : (s : ℕ) (m rest : List ℕ) → length m ≤ MAX_MESSAGE → length_in (frame (Payload s m) ++ rest) ≡ length m
unfolding frame
payload_length s m rest within =
    let tail = number 4 s ++ (number 3 (length m) ++ (m ++ rest)) in
    let text : (number 1 128 ++ (number 4 s ++ vector 3 m)) ++ rest ≡ 128 ∷ tail = ap (λ (b : List ℕ). (b ++ (number 4 s ++ vector 3 m)) ++ rest) (one_byte 128 (lit< tt)) ∙ ap (λ (b : List ℕ). 128 ∷ b) (simp append_assoc) in
    let there : 7 ≤ length tail = omega (arith, length-append (number 4 s) (number 3 (length m) ++ (m ++ rest)), length-append (number 3 (length m)) (m ++ rest), length-number 4 s, length-number 3 (length m)) in
    let front : take 3 (drop 4 tail) ≡ number 3 (length m) =
    ap (λ (b : List ℕ). take 3 b) (drop_at (number 4 s) (number 3 (length m) ++ (m ++ rest)) 4 (length-number 4 s)) ∙ take_at (number 3 (length m)) (m ++ rest) 3 (length-number 3 (length m)) in
    ap length_in text ∙ sym (length_there 128 tail there) ∙ ap (λ (b : List ℕ). big_number 3 b) front ∙ big_number-number 3 (length m) (omega (arith, within))

payload_size : (s : ℕ) (m : List ℕ) → length (frame (Payload s m)) ≡ 8 + length m
unfolding frame
payload_size s m = omega (arith, length-append (number 1 128) (number 4 s ++ vector 3 m), length-append (number 4 s) (vector 3 m), length-append (number 3 (length m)) m, length-number 1 128, length-number 4 s, length-number 3 (length m))

ack_size : (s r : ℕ) → length (frame (Ack s r)) ≡ 9
unfolding frame
ack_size s r = omega (arith, length-append (number 1 129) (number 4 s ++ number 4 r), length-append (number 4 s) (number 4 r), length-number 1 129, length-number 4 s, length-number 4 r)

payload_code : (s : ℕ) (m rest bytes : List ℕ) → bytes ≡ frame (Payload s m) ++ rest → BeginsWith 128 bytes
unfolding frame
payload_code s m rest bytes e = subst (BeginsWith 128) (sym (e ∙ ap (λ (b : List ℕ). (b ++ (number 4 s ++ vector 3 m)) ++ rest) (one_byte 128 (lit< tt)))) refl

ack_code : (s r : ℕ) (rest bytes : List ℕ) → bytes ≡ frame (Ack s r) ++ rest → BeginsWith 129 bytes
unfolding frame
ack_code s r rest bytes e = subst (BeginsWith 129) (sym (e ∙ ap (λ (b : List ℕ). (b ++ (number 4 s ++ number 4 r)) ++ rest) (one_byte 129 (lit< tt)))) refl

-- what begins with 128, with 129, or with nothing yet
payload_needs : (b : ℕ) (tail more : List ℕ) → b ≡ 128 → BeginsFrame ((b ∷ tail) ++ more) → (length_in (b ∷ tail) ≤ MAX_MESSAGE) × (8 + length_in (b ∷ tail) ≤ length (b ∷ tail) + length more)
payload_needs b tail more is begun = go begun.first begun.rest begun.fits begun.spelled where
  go : (f : Frame) (rest : List ℕ) → IsFrame f → (b ∷ tail) ++ more ≡ frame f ++ rest → (length_in (b ∷ tail) ≤ MAX_MESSAGE) × (8 + length_in (b ∷ tail) ≤ length (b ∷ tail) + length more)
  go (Payload s m) rest fits e =
      let len : length_in ((b ∷ tail) ++ more) ≡ length m = ap length_in e ∙ payload_length s m rest fits.1 in
      let le = length_in-le (b ∷ tail) more in
      (omega (arith, len, le, fits.1), omega (arith, len, le, ap length e, length-append (b ∷ tail) more, length-append (frame (Payload s m)) rest, payload_size s m))
  go (Ack s r) rest fits e = let code : b ≡ 129 = ack_code s r rest ((b ∷ tail) ++ more) e in absurd (omega (arith, code, is))

ack_needs : (b : ℕ) (tail more : List ℕ) → b ≡ 129 → BeginsFrame ((b ∷ tail) ++ more) → 9 ≤ length (b ∷ tail) + length more
ack_needs b tail more is begun = go begun.first begun.rest begun.spelled where
  go : (f : Frame) (rest : List ℕ) → (b ∷ tail) ++ more ≡ frame f ++ rest → 9 ≤ length (b ∷ tail) + length more
  go (Payload s m) rest e = let code : b ≡ 128 = payload_code s m rest ((b ∷ tail) ++ more) e in absurd (omega (arith, code, is))
  go (Ack s r) rest e = omega (arith, ap length e, length-append (b ∷ tail) more, length-append (frame (Ack s r)) rest, ack_size s r)

some_needs : (more : List ℕ) → BeginsFrame more → 8 ≤ length more
some_needs more begun = go begun.first begun.rest begun.spelled where
  go : (f : Frame) (rest : List ℕ) → more ≡ frame f ++ rest → 8 ≤ length more
  go (Payload s m) rest e = omega (arith, ap length e, length-append (frame (Payload s m)) rest, payload_size s m)
  go (Ack s r) rest e = omega (arith, ap length e, length-append (frame (Ack s r)) rest, ack_size s r)

-- ---- zeros make a frame

payload_made : (b : ℕ) (tail : List ℕ) (k : ℕ) → AreBytes (b ∷ tail) → b ≡ 128 → length_in (b ∷ tail) ≤ MAX_MESSAGE → 8 + length_in (b ∷ tail) ≤ length (b ∷ tail) + k → BeginsFrame ((b ∷ tail) ++ replicate k 0)
payload_made b tail k fits is within le =
    let zeros = replicate k 0 in
    let bytes = AreBytes-append (b ∷ tail) zeros fits (AreBytes-zeros k) in
    let len : length_in (b ∷ (tail ++ zeros)) ≡ length_in (b ∷ tail) = length_in-zeros (b ∷ tail) k in
    let long : 7 + length_in (b ∷ (tail ++ zeros)) ≤ length (tail ++ zeros) = omega (arith, len, le, length-append tail zeros, length-replicate {A = ℕ} k 0) in
    let w = payload_whole b 1 (tail ++ zeros) (omega arith) (omega (arith, len, within)) long in
    let e : frame_at (part 0 (b ∷ (tail ++ zeros))) ≡ Ok w.0 = frame_some 0 b (tail ++ zeros) ∙ ap (λ (c : ℕ). behind_code 0 c (part 1 (tail ++ zeros))) is ∙ w.1 in
    read_whole 0 (b ∷ (tail ++ zeros)) (Ok w.0) bytes e refl

ack_made : (b : ℕ) (tail : List ℕ) (k : ℕ) → AreBytes (b ∷ tail) → b ≡ 129 → 9 ≤ length (b ∷ tail) + k → BeginsFrame ((b ∷ tail) ++ replicate k 0)
ack_made b tail k fits is le =
    let zeros = replicate k 0 in
    let bytes = AreBytes-append (b ∷ tail) zeros fits (AreBytes-zeros k) in
    let w = ack_whole 1 (tail ++ zeros) (omega (arith, le, length-append tail zeros, length-replicate {A = ℕ} k 0)) in
    let e : frame_at (part 0 (b ∷ (tail ++ zeros))) ≡ Ok w.0 = frame_some 0 b (tail ++ zeros) ∙ ap (λ (c : ℕ). behind_code 0 c (part 1 (tail ++ zeros))) is ∙ w.1 in
    read_whole 0 (b ∷ (tail ++ zeros)) (Ok w.0) bytes e refl

-- ---- each case

payload_missing : (b : ℕ) (tail : List ℕ) → AreBytes (b ∷ tail) → b ≡ 128 → IsMissing (b ∷ tail) (8 + least_message (b ∷ tail) - length (b ∷ tail))
payload_missing b tail fits is =
    elim (cases_lt MAX_MESSAGE (length_in (b ∷ tail))) [
      | inl large ↦
          let e : leb (length_in (b ∷ tail)) MAX_MESSAGE ≡ false = lt-leb _ _ large in
          let k = 8 - length (b ∷ tail) in
          rw e (inr (
            λ more begun. omega (arith, large, (payload_needs b tail more is begun).0),
            record {
              more = replicate k 0;
              count = length-replicate {A = ℕ} k 0;
              reached = inr (record { code = is; there = omega (arith, length-append (b ∷ tail) (replicate k 0), length-replicate {A = ℕ} k 0); large = omega (arith, large, length_in-zeros (b ∷ tail) k) });
              least = λ other fault. elim fault [ inl bad ↦ absurd (bad.0 is) | inr long ↦ omega (arith, long.there, length-append (b ∷ tail) other) ];
            },
          ))
      | inr within ↦
          let e : leb (length_in (b ∷ tail)) MAX_MESSAGE ≡ true = le-leb _ _ within in
          let k = 8 + length_in (b ∷ tail) - length (b ∷ tail) in
          rw e (inl (record {
            more = replicate k 0;
            count = length-replicate {A = ℕ} k 0;
            reached = payload_made b tail k fits is within (omega arith);
            least = λ other begun. omega (arith, (payload_needs b tail other is begun).1);
          }))
    ]

ack_missing : (b : ℕ) (tail : List ℕ) → AreBytes (b ∷ tail) → b ≡ 129 → IsMissing (b ∷ tail) (9 - length (b ∷ tail))
ack_missing b tail fits is =
    let k = 9 - length (b ∷ tail) in
    inl (record {
      more = replicate k 0;
      count = length-replicate {A = ℕ} k 0;
      reached = ack_made b tail k fits is (omega arith);
      least = λ other begun. omega (arith, ack_needs b tail other is begun);
    })

other_missing : (b : ℕ) (tail : List ℕ) → IsBadType (b ∷ tail) → IsMissing (b ∷ tail) (0 - length (b ∷ tail))
other_missing b tail is = inr (
  λ more begun. frame_not_bad begun.first begun.rest ((b ∷ tail) ++ more) begun.fits begun.spelled is,
  record { more = []; count = omega arith; reached = inl is; least = λ other fault. omega arith },
)

nothing_missing : IsMissing [] 8
nothing_missing = inl (record {
  more = frame (Payload 0 []);
  count = payload_size 0 [];
  reached = record { first = Payload 0 []; rest = []; fits = (lit< tt, omega arith, λ i. lit< tt); spelled = sym (append-nil (frame (Payload 0 []))) };
  least = λ other begun. some_needs other begun;
})

pub missing : (bytes : List ℕ) → AreBytes bytes → IsMissing bytes (wanted bytes)
unfolding least_whole
missing [] fits = nothing_missing
missing (b ∷ tail) fits =
    elim (eqb b 128) as (λ t. eqb b 128 ≡ t → IsMissing (b ∷ tail) (cond t (8 + least_message (b ∷ tail)) (cond (eqb b 129) 9 0) - length (b ∷ tail))) [
      | true ↦ λ is. payload_missing b tail fits (eqb-true b 128 is)
      | false ↦ λ not_one. elim (eqb b 129) as (λ t. eqb b 129 ≡ t → IsMissing (b ∷ tail) (cond t 9 0 - length (b ∷ tail))) [
        | true ↦ λ is. ack_missing b tail fits (eqb-true b 129 is)
        | false ↦ λ not_two. other_missing b tail (eqb-false b 128 not_one, eqb-false b 129 not_two)
      ] refl
    ] refl
