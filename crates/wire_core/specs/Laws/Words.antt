-- The words of the wire, each in both directions.
use Rattle.std.proofs.Common.{◌≡◌, ℕ, zero, suc, ◌+◌, ◌^◌, ◌<◌, ◌≤◌, ◌⊎◌, inl, inr, Bool, true, false, cond, eqb, ltb, leb, List, [], ◌++◌, length, take, Option, Some, None, Result, Ok, Err, refl, sym, ap, subst, ◌∙◌, length-append, lit<, eq-eqb, arith}
use Rattle.std.proofs.lemmas.Bool.{ltb-false, ltb-true, le-ltb, leb-true, le-leb, eqb-true}
use Rattle.std.proofs.lemmas.List.{append-nil, length-take, length-drop, take_at, drop_at, take-append-drop, nil_from_length}
use Rattle.byteorder.specs.Endian.{big_number}
use Rattle.wire_core.specs.declared.bad.Bad.{Bad}
use Rattle.wire_core.specs.declared.bad.Reason.{Reason}
use Rattle.wire_core.specs.declared.bad.Reason.TheVariants.{Short, LengthPast, BadValue, Trailing, TooLarge}
use Rattle.wire_core.specs.Part.{Part, part, behind, end_of}
use Rattle.wire_core.specs.Spelling.{AreBytes, number, boolean, vector}
use Rattle.wire_core.specs.Layout.{Follows, IsLayout}
use Rattle.wire_core.specs.Reading.{Reader, and_then, done, refused, allowed, place_at, ended, rest_at, bytes_at, number_at, boolean_at, exact_at, limited_at, stretch_at, part_at, sized_part_at, filled_at, inside, vector_at, sized_at, given, code_at}
use Rattle.wire_core.specs.Laws.Bytes.{AreBytes-take, length-number, AreBytes-number, number-big_number, big_number-number, big_number-lt}
use Rattle.wire_core.specs.Laws.Steps.{laid, Anything, Nothing, Always, Lays, then_ok, then_err, ok_is, refused_at, seq, done_laid, laid_as, fits_as, read_as, spelled_as, placed, tested, tested_last, refused_laid, made}

-- a test that was passed
pub guard_ok : {A : Type 0} (b : Bool) (bad : Bad) (x y : A) → cond b (Err bad) (Ok x) ≡ Ok y
    → (b ≡ false) × (x ≡ y)
guard_ok true bad x y e = absurd cc
guard_ok false bad x y e = (refl, cc)

-- a test that wasn't passed
guard_err : {A : Type 0} (b : Bool) (bad found : Bad) (x : A) → cond b (Err bad) (Ok x) ≡ Err found
    → (b ≡ true) × (bad ≡ found)
guard_err true bad found x e = (refl, cc)
guard_err false bad found x e = absurd cc

-- the next n bytes
abbrev pub AreNextBytes : ℕ → List ℕ → Type 0
AreNextBytes n bytes = (length bytes ≡ n) × AreBytes bytes

front_follows : (n : ℕ) (p : Part) → n ≤ length p.bytes → Follows p (take n p.bytes) (behind n p)
front_follows n p long = record {
  bytes = sym (take-append-drop n p.bytes);
  place = let len : length
      (take n p.bytes) ≡ n = omega (arith, length-take n p.bytes) in rw len refl;
}

-- a part at its end
pub ended_ok : {A : Type 0} (p : Part) (next : Unit {0} → Reader A) (y : A × Part)
    → and_then (ended p) next ≡ Ok y → (p.bytes ≡ []) × (next tt p ≡ Ok y)
unfolding allowed
ended_ok p next y e =
    elim (eqb (length p.bytes) 0) as
    (λ b. eqb (length p.bytes) 0 ≡ b → and_then (cond b (done tt) (refused p.place Trailing) p)
    next ≡ Ok y → (p.bytes ≡ []) × (next tt p ≡ Ok y)) [
      | true ↦ λ empty f. (nil_from_length p.bytes (eqb-true _ _ empty), f)
      | false ↦ λ some f. absurd cc
    ] refl e

-- a part that isn't at its end
pub ended_err : (p : Part) (bad : Bad) → ended p ≡ Err bad → bad.place ≡ p.place
unfolding allowed
ended_err p bad e =
    elim (eqb (length p.bytes) 0) as (λ b. cond b (done (tt {0})) (refused p.place Trailing) p
    ≡ Err bad → bad.place ≡ p.place) [
      | true ↦ λ f. absurd cc
      | false ↦ λ f. refused_at {A = Unit {0}} p.place Trailing p bad f
    ] e

-- steps in steps are steps in a row
regrouped : {A B C : Type 0} (r : Result (A × Part) Bad) (f : A → Reader B) (g : B → Reader C)
    → and_then r (λ x p. and_then (f x p) g) ≡ and_then (and_then r f) g
regrouped (Ok x) f g = refl
regrouped (Err bad) f g = refl

regrouped_2 : {A B C D : Type 0} (r : Result (A × Part) Bad) (f : A → Reader B)
    (g : A → B → Reader C) (h : C → Reader D)
    → and_then r (λ x p. and_then (f x p) (λ y q. and_then (g x y q) h)) ≡ and_then
    (and_then r (λ x p. and_then (f x p) (g x))) h
regrouped_2 (Ok x) f g h = regrouped (f x.0 x.1) (g x.0) h
regrouped_2 (Err bad) f g h = refl

regrouped_3 : {A B C D E : Type 0} (r : Result (A × Part) Bad) (f : A → Reader B)
    (g : A → B → Reader C) (h : A → B → Reader D) (k : D → Reader E)
    → and_then r (λ x p. and_then (f x p) (λ y q. and_then (g x y q) (λ _ m. and_then (h x y m) k)))
    ≡ and_then (and_then r (λ x p. and_then (f x p) (λ y q. and_then (g x y q) (λ _. h x y)))) k
regrouped_3 (Ok x) f g h k = regrouped_2 (f x.0 x.1) (g x.0) (λ y _. h x.0 y) k
regrouped_3 (Err bad) f g h k = refl

-- a Boolean's byte
flag_lt : (b : Bool) → ltb (cond b 1 0) 2 ≡ true
flag_lt true = refl
flag_lt false = refl

flag_is : (b : Bool) → b ≡ eqb (cond b 1 0) 1
flag_is true = refl
flag_is false = refl

flag_back : (n : ℕ) → ltb n 2 ≡ true → cond (eqb n 1) 1 0 ≡ n
flag_back zero lt = refl
flag_back (suc zero) lt = refl
flag_back (suc (suc n)) lt = absurd (omega (arith, ltb-true (suc (suc n)) 2 lt))

module _ {n : ℕ} where
  pub bytes_laid : (k : ℕ) → Lays n Anything Always (AreNextBytes k) (λ bytes. bytes) (bytes_at k)
  unfolding bytes_at
  bytes_laid k = record {
    takes = λ p y q bytes ends e.
        let g = guard_ok (ltb (length p.bytes) k) _ (take k p.bytes, behind k p) (y, q) e in
        let long : k ≤ length p.bytes = ltb-false _ _ g.0 in
        subst (λ (r : List ℕ × Part). Unit {0} × AreNextBytes k r.0 × Follows p r.0 r.1) g.1 (
          tt,
          (omega (arith, length-take k p.bytes), AreBytes-take k p.bytes bytes),
          front_follows k p long,
        );
    again = λ place y rest ends known fits after.
        let long : ltb (length (y ++ rest)) k ≡ false =
        le-ltb _ _ (omega (arith, length-append y rest, fits.0)) in
        rw (long, take_at y rest k fits.0, drop_at y rest k fits.0, fits.0) refl;
    within = λ p bad bytes ends e.
        let g = guard_err (ltb (length p.bytes) k) (record { place = end_of p; reason = Short }) bad
        (take k p.bytes, behind k p) e in
        omega (arith, ends, ap (λ (b : Bad). b.place) g.1);
  }

  pub number_laid : (k : ℕ) → Lays n Anything Always (λ x. x < 256 ^ k) (number k) (number_at k)
  unfolding number_at
  number_laid k =
      made (big_number k) (bytes_laid k)
      (λ bytes fits. (
        tt,
        big_number-lt k bytes fits.1,
        sym (number-big_number k bytes fits.0 fits.1),
      ))
      (λ x known lt. (
        number k x,
        (length-number k x, AreBytes-number k x),
        big_number-number k x lt,
      ))

  -- all that is left
  pub rest_laid : Lays n Nothing Always AreBytes (λ bytes. bytes) rest_at
  rest_laid = record {
    takes = λ p y q bytes ends e.
        subst (λ (r : List ℕ × Part). Unit {0} × AreBytes r.0 × Follows p r.0 r.1)
        (ok_is (p.bytes, part (p.place + length p.bytes) []) (y, q) e)
        (tt, bytes, record { bytes = sym (append-nil p.bytes); place = refl });
    again = λ place y rest ends known fits after. rw (after, append-nil) refl;
    within = λ p bad bytes ends e. absurd cc;
  }

  -- all that is left, where that is len bytes
  pub counted_laid : (place len : ℕ) → place ≤ n → Lays n Nothing
      (λ bytes. (length bytes ≡ len) × Unit {0}) AreBytes (λ bytes. bytes)
      (λ p. and_then (allowed (eqb len (length p.bytes)) place BadValue p) (λ _. rest_at))
  unfolding allowed
  counted_laid place len le = record {
    takes = λ p bytes q fits ends e.
        elim (eqb len (length p.bytes)) as
        (λ b. eqb len (length p.bytes) ≡ b
        → and_then (cond b (done (tt {0})) (refused place BadValue) p) (λ _. rest_at) ≡ Ok
        (bytes, q) → ((length bytes ≡ len) × Unit {0}) × AreBytes bytes × Follows p bytes q) [
          | true ↦ λ is f.
              let t = rest_laid.takes p bytes q fits ends f in
              let all : p.bytes ≡ bytes = ap (λ (r : List ℕ × Part). r.0)
              (ok_is (p.bytes, part (p.place + length p.bytes) []) (bytes, q) f) in
              ((sym (eqb-true len (length p.bytes) is ∙ ap length all), tt), t.1, t.2)
          | false ↦ λ isnt f. absurd cc
        ] refl e;
    again = λ at bytes rest ends known fits after.
        let is : eqb len (length (bytes ++ rest)) ≡ true = eq-eqb len (length (bytes ++ rest))
        (omega (arith, known.0, length-append bytes rest, ap length after)) in
        rw is (rest_laid.again at bytes rest ends tt fits after);
    within = λ p bad bytes ends e.
        elim (eqb len (length p.bytes)) as
        (λ b. and_then (cond b (done (tt {0})) (refused place BadValue) p) (λ _. rest_at)
        ≡ Err bad → bad.place ≤ n) [
          | true ↦ λ f. absurd cc
          | false ↦ λ f. let same : record { place = place; reason = BadValue } ≡ bad = cc in
              omega (arith, le, ap (λ (b : Bad). b.place) same)
        ] e;
  }

  -- ---- parts

  -- what fills the next len bytes
  filled : {A : Type 0} {Fits : A → Type 0} {s : A → List ℕ} {read : Reader A} → (place len : ℕ)
      → place ≤ n → Lays n Nothing Always Fits s read
      → Lays n Anything Always (λ x. Fits x × (length (s x) ≡ len)) s
      (λ p. and_then (stretch_at place len p) (λ part. inside part read))
  unfolding stretch_at allowed
  filled {A} {Fits} {s} {read} place len le law = record {
    takes = λ p y q bytes ends e.
        let a = then_ok (stretch_at place len p) (λ part. inside part read) (y, q) e in
        let g = guard_ok (ltb (length p.bytes) len) _
        (part p.place (take len p.bytes), behind len p) (a.0, a.1) a.2 in
        let long : len ≤ length p.bytes = ltb-false _ _ g.0 in
        let front : part p.place (take len p.bytes) ≡ a.0 = ap (λ (r : Part × Part). r.0) g.1 in
        let back : behind len p ≡ a.1 = ap (λ (r : Part × Part). r.1) g.1 in
        let b = then_ok (read a.0) (λ x left. and_then (ended left) (λ _ _. done x a.1))
        (y, q) a.3 in
        let c = ended_ok b.1 (λ _ _. done b.0 a.1) (y, q) b.3 in
        let inner = subst (λ (r : Part). AreBytes r.bytes) front (AreBytes-take len p.bytes bytes)
        in
        let inner_ends : end_of (part p.place (take len p.bytes)) ≤ n =
        omega (arith, ends, length-take len p.bytes) in
        let t = law.takes a.0 b.0 b.1 inner (subst (λ (r : Part). end_of r ≤ n) front inner_ends)
        b.2 in
        let text : take len p.bytes ≡ s b.0 = ap (λ (r : Part). r.bytes) front ∙ t.2.bytes ∙ ap
        (λ (r : List ℕ). s b.0 ++ r) c.0 ∙ append-nil (s b.0) in
        let measured : length (s b.0) ≡ len = omega (arith, ap length text, length-take len p.bytes)
        in
        let follows : Follows p (s b.0) a.1 = subst (Follows p (s b.0)) back
        (subst (λ (x : List ℕ). Follows p x (behind len p)) text (front_follows len p long)) in
        subst (λ (r : A × Part). Unit {0} × (Fits r.0 × (length (s r.0) ≡ len)) × Follows p
        (s r.0) r.1) (ok_is (b.0, a.1) (y, q) c.1) (tt, (t.1, measured), follows);
    again = λ at y rest ends known fits after.
        let long : ltb (length (s y ++ rest)) len ≡ false =
        le-ltb _ _ (omega (arith, length-append (s y) rest, fits.1)) in
        let one : read (part at (s y)) ≡ Ok (y, part (at + length (s y)) []) =
        subst (λ (bytes : List ℕ). read (part at bytes) ≡ Ok (y, part (at + length (s y)) []))
        (append-nil (s y)) (law.again at y [] ends tt fits.0 refl) in
        rw (long, take_at (s y) rest len fits.1, drop_at (s y) rest len fits.1, one, fits.1) refl;
    within = λ p bad bytes ends e.
        elim (then_err (stretch_at place len p) (λ part. inside part read) bad e) [
          | inl past ↦
              let g = guard_err (ltb (length p.bytes) len)
              (record { place = place; reason = LengthPast }) bad
              (part p.place (take len p.bytes), behind len p) past in
              omega (arith, le, ap (λ (b : Bad). b.place) g.1)
          | inr a ↦
              let g = guard_ok (ltb (length p.bytes) len) _
              (part p.place (take len p.bytes), behind len p) (a.0, a.1) a.2 in
              let front : part p.place (take len p.bytes) ≡ a.0 =
              ap (λ (r : Part × Part). r.0) g.1 in
              let inner = subst (λ (r : Part). AreBytes r.bytes) front
              (AreBytes-take len p.bytes bytes) in
              let inner_ends : end_of (part p.place (take len p.bytes)) ≤ n =
              omega (arith, ends, length-take len p.bytes) in
              let ends_in = subst (λ (r : Part). end_of r ≤ n) front inner_ends in
              elim (then_err (read a.0) (λ x left. and_then (ended left) (λ _ _. done x a.1)) bad
              a.3) [
                | inl fault ↦ law.within a.0 bad inner ends_in fault
                | inr b ↦
                    let t = law.takes a.0 b.0 b.1 inner ends_in b.2 in
                    elim (then_err (ended b.1) (λ _ _. done b.0 a.1) bad b.3) [
                      | inl more ↦ omega (
                        arith,
                        ends_in,
                        ended_err b.1 bad more,
                        t.2.place,
                        ap length t.2.bytes,
                        length-append (s b.0) b.1.bytes,
                      )
                      | inr c ↦ let never : done b.0 a.1 ≡ Err bad = c.3 in absurd cc
                    ]
              ]
        ];
  }

  pub filled_laid : {A : Type 0} {Fits : A → Type 0} {s : A → List ℕ} {read : Reader A}
      → (place len : ℕ) → place ≤ n → Lays n Nothing Always Fits s read
      → Lays n Anything Always (λ x. Fits x × (length (s x) ≡ len)) s (filled_at place len read)
  unfolding filled_at
  filled_laid place len le law = filled place len le law

  -- a vector of what fills it
  pub vector_laid : {A : Type 0} {Fits : A → Type 0} {s : A → List ℕ} {read : Reader A} → (k : ℕ)
      → Lays n Nothing Always Fits s read
      → Lays n Anything Always (λ x. (length (s x) < 256 ^ k) × Fits x) (λ x. vector k (s x))
      (vector_at k read)
  unfolding vector_at part_at
  vector_laid {A} {Fits} {s} {read} k law =
      let in_row = placed (λ place le. seq {Known = Always} (λ x. length (s x)) (number_laid k)
      (λ len lt. laid_as _ Fits (filled place len le law) (λ y k f. ((f.1, tt), f.0))
      (λ y k f. (tt, (f, k.0))))) in
      read_as (vector_at k read) in_row (λ p. regrouped_2 (place_at p) (λ _. number_at k) stretch_at
      (λ part. inside part read))

  -- a part of one size, behind its length
  pub sized_laid : {A : Type 0} {Fits : A → Type 0} {s : A → List ℕ} {read : Reader A}
      → (k size : ℕ) → size < 256 ^ k → ((x : A) → Fits x → length (s x) ≡ size)
      → Lays n Nothing Always Fits s read → Lays n Anything Always Fits (λ x. number k size ++ s x)
      (sized_at k size read)
  unfolding sized_at sized_part_at
  sized_laid {A} {Fits} {s} {read} k size small len_is law =
      let in_row = placed (λ place le. seq {Known = Always} (λ x. length (s x)) (number_laid k)
      (λ len lt.
      tested (eqb len size) place BadValue (λ _. le)
      (λ y k f. let e : len ≡ size = sym k.0 ∙ len_is y f in eq-eqb len size e)
      (λ same. laid_as _ Fits (filled place len le law) (λ y k f. ((f.1, tt), f.0))
      (λ y k f. (tt, (f, k.0)))))) in
      let measured = spelled_as (λ x. number k size ++ s x) in_row
      (λ y _ f. ap (λ (m : ℕ). number k m ++ s y) (len_is y f.1)) in
      let fitting = fits_as Fits measured (λ y k f. f.1)
      (λ y k f. (let e : length (s y) ≡ size = len_is y f in omega (arith, e, small), f)) in
      read_as (sized_at k size read) fitting (λ p. regrouped_3 (place_at p) (λ _. number_at k)
      (λ place len. allowed (eqb len size) place BadValue) stretch_at
      (λ part. inside part read))

  -- a Boolean
  pub boolean_laid : Lays n Anything Always Always boolean boolean_at
  unfolding boolean_at
  boolean_laid =
      let law = placed (λ place le. seq {Known = Always} (λ b. cond b 1 0) (number_laid 1) (λ x _.
      tested (ltb x 2) place BadValue (λ _. le)
      (λ b k f. subst (λ (m : ℕ). ltb m 2 ≡ true) k.0 (flag_lt b))
      (λ lt. done_laid (eqb x 1) (flag_back x lt, tt)
      (λ b k. flag_is b ∙ ap (λ (m : ℕ). eqb m 1) k.0)))) in
      spelled_as boolean (fits_as Always law (λ b k f. tt)
      (λ b k f. (let lt : cond b 1 0 < 2 = ltb-true _ _ (flag_lt b) in omega (arith, lt), tt)))
      (λ b k f. append-nil (boolean b))

  -- the one value that a code stands for, if it stands for any
  given_laid : {A : Type 0} {code_of : A → ℕ} {code : ℕ} (value : Option A) (place : ℕ) → place ≤ n
      → ((x : A) → value ≡ Some x → code_of x ≡ code)
      → ((x : A) → code_of x ≡ code → Some x ≡ value)
      → Lays n Anything (λ x. (code_of x ≡ code) × Unit {0}) Always (λ _. [])
      (given value place BadValue)
  unfolding given
  given_laid (Some y) place le back only = done_laid y (back y refl, tt)
      (λ z k. let same = only z k.0 in cc)
  given_laid None place le back only = refused_laid le (λ x k f. let never = only x k.0 in cc)

  -- a code
  pub code_laid : {A : Type 0} (k : ℕ) (code_of : A → ℕ) (meaning : ℕ → Option A)
      → ((x : A) → (code_of x < 256 ^ k) × (meaning (code_of x) ≡ Some x))
      → ((code : ℕ) (x : A) → meaning code ≡ Some x → code_of x ≡ code)
      → Lays n Anything Always Always (λ x. number k (code_of x)) (code_at k meaning)
  unfolding code_at
  code_laid {A} k code_of meaning there back =
      spelled_as _ (fits_as _
      (placed (λ place le. seq {Known = Always} {Fits = Always} code_of (number_laid k)
      (λ code _. given_laid (meaning code) place le (λ x. back code x)
      (λ x e. sym (there x).1 ∙ ap meaning e))))
      (λ x k f. tt) (λ x k f. ((there x).0, tt))) (λ x _ f. append-nil (number k (code_of x)))

  -- one number and no other
  pub exact_laid : (k value : ℕ) → value < 256 ^ k → Lays n Anything Always Always
      (λ _. number k value) (exact_at k value)
  unfolding exact_at
  exact_laid k value lt =
      let law = placed (λ place le. seq {Known = Always} {Fits = Always} (λ _. value)
      (number_laid k) (λ x _. tested_last (eqb x value) place BadValue (λ _. le)
      (λ k f. eq-eqb x value (sym k.0)) (λ same. ((sym (eqb-true x value same), tt), tt)))) in
      spelled_as _ (fits_as Always law (λ y k f. tt) (λ y k f. (lt, tt)))
      (λ y _ f. append-nil (number k value))

  -- a length within a limit
  pub limited_laid : (k limit : ℕ) → Lays n Anything Always (λ x. (x < 256 ^ k) × (x ≤ limit))
      (number k) (limited_at k limit)
  unfolding limited_at
  limited_laid k limit =
      let law = placed (λ place le. seq {Known = Always} {Fits = λ x. x ≤ limit} (λ x. x)
      (number_laid k) (λ x _.
      tested (leb x limit) place TooLarge (λ _. le)
      (λ y k f. let le : x ≤ limit = omega (arith, k.0, f) in le-leb x limit le)
      (λ within. fits_as _ (done_laid x (refl, tt) (λ z k. k.0))
      (λ y k f. let le = leb-true x limit within in omega (arith, k.0, le)) (λ y k f. tt)))) in
      spelled_as (number k) law (λ x _ f. append-nil (number k x))

-- ---- numbers as layouts of their own

pub number_is_layout : (k : ℕ) → IsLayout (λ x. Unit {0} × (x < 256 ^ k)) (number k) (number_at k)
number_is_layout k = laid (λ n. fits_as _ (number_laid {n = n} k) (λ x _ lt. (tt, lt))
    (λ x _ f. f.1))

pub number-some : (k x : ℕ) → 0 < length (number (suc k) x)
number-some k x = omega (arith, length-number (suc k) x)

-- ---- bytes as layouts of their own

pub bytes_are_layout : IsLayout (λ bytes. (length bytes < 256 ^ 2) × AreBytes bytes) (vector 2)
    (vector_at 2 rest_at)
bytes_are_layout = laid (λ n. vector_laid {n = n} 2 rest_laid)

pub bytes-some : (bytes : List ℕ) → 0 < length (vector 2 bytes)
bytes-some bytes = omega (
  arith,
  length-number 2 (length bytes),
  length-append
      (number 2 (length bytes)) bytes,
)
