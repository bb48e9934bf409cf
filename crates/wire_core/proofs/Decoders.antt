-- From the law of a layout to the contract of a call that reads it.
use Rattle.std.proofs.Common.{◌≡◌, ℕ, ◌+◌, ◌≤◌, List, [], ◌++◌, length, Result, Ok, Err, IfOk, inl, inr, refl, sym, ap, subst, ◌∙◌, length-append, arith}
use Rattle.std.proofs.lemmas.List.{append-nil}
use Rattle.wire_core.specs.declared.bad.Bad.{Bad}
use Rattle.wire_core.specs.declared.bad.DecodeFault.{DecodeFault}
use Rattle.wire_core.specs.declared.bad.DecodeFault.TheVariants as faults
use Rattle.wire_core.specs.Part.{Part, part, end_of}
use Rattle.wire_core.specs.Reading.{Reader, and_then, done, ended, allowed, inside, value_of, whole_of, Decodes, Gives}
use Rattle.wire_core.specs.Spelling.{AreBytes}
use Rattle.wire_core.specs.Layout.{Follows, behind_text, IsLayout}
use Rattle.wire_core.specs.Laws.Steps.{then_ok, then_err, ok_is}
use Rattle.wire_core.specs.Laws.Words.{ended_ok, ended_err}

module _ {Y : Type 0} {Fits : Y → Type 0} {spell : Y → List ℕ} {read : Reader Y} (law : IsLayout Fits spell read) (p q : Part) where
  -- what a call read is spelled so
  pub found_by : (r : Result Y DecodeFault) → AreBytes p.bytes → Decodes r q (read p) → IfOk r (λ y. Fits y × Follows p (spell y) q)
  found_by (Ok y) bytes e = law.takes p y q bytes e
  found_by (Err fault) bytes e = tt

  -- what is spelled so is what a call read
  pub only_by : (r : Result Y DecodeFault) (y : Y) (rest : List ℕ) → Fits y → p.bytes ≡ spell y ++ rest → Decodes r q (read p) → Decodes r q (Ok (y, behind_text (spell y) rest p))
  only_by r y rest fits text e = subst (Decodes r q) (ap (λ (bytes : List ℕ). read (part p.place bytes)) text ∙ law.again p.place y rest fits) e

  -- its fault stands in the part, or at its end
  pub within_by : (r : Result Y DecodeFault) (bad : Bad) → AreBytes p.bytes → Decodes r q (read p) → r ≡ Err (faults.Bad bad) → bad.place ≤ end_of p
  within_by r bad bytes e is = law.within p bad bytes (subst (λ s. Decodes s q (read p)) is e)

-- ---- all of some bytes

value_ok : {Y : Type 0} (r : Result (Y × Part) Bad) (y : Y) → value_of r ≡ Ok y → (m : Part) × (r ≡ Ok (y, m))
value_ok (Ok x) y e = let same : x.0 ≡ y = cc in (x.1, ap (λ z. Ok (z, x.1)) same)
value_ok (Err bad) y e = absurd cc

value_err : {Y : Type 0} (r : Result (Y × Part) Bad) (bad : Bad) → value_of r ≡ Err bad → r ≡ Err bad
value_err (Ok x) bad e = absurd cc
value_err (Err found) bad e = let same : found ≡ bad = cc in ap (λ (b : Bad). Err b) same

module _ {Y : Type 0} {Fits : Y → Type 0} {spell : Y → List ℕ} {read : Reader Y} (law : IsLayout Fits spell read) (bytes : List ℕ) where
  -- what all of some bytes are is spelled so
  pub whole_takes : (y : Y) → AreBytes bytes → whole_of read bytes ≡ Ok y → Fits y × (bytes ≡ spell y)
  whole_takes y are e =
      let p = part 0 bytes in
      let v = value_ok (inside p read p) y e in
      let a = then_ok (read p) (λ x left. and_then (ended left) (λ _ _. done x p)) (y, v.0) v.1 in
      let c = ended_ok a.1 (λ _ _. done a.0 p) (y, v.0) a.3 in
      let t = law.takes p a.0 a.1 are a.2 in
      let same : a.0 ≡ y = ap (λ (r : Y × Part). r.0) (ok_is (a.0, p) (y, v.0) c.1) in
      subst (λ (x : Y). Fits x × (bytes ≡ spell x)) same (t.0, t.1.bytes ∙ ap (λ (r : List ℕ). spell a.0 ++ r) c.0 ∙ append-nil (spell a.0))

  -- what is spelled so is what all of them are
  pub whole_again : (y : Y) → Fits y → bytes ≡ spell y → whole_of read bytes ≡ Ok y
  unfolding allowed
  whole_again y fits text =
      let p = part 0 bytes in
      let one : read p ≡ Ok (y, part (0 + length (spell y)) []) = subst (λ (b : List ℕ). read (part 0 b) ≡ Ok (y, part (0 + length (spell y)) [])) (append-nil (spell y) ∙ sym text) (law.again 0 y [] fits) in
      rw one refl

  whole_within : (bad : Bad) → AreBytes bytes → whole_of read bytes ≡ Err bad → bad.place ≤ length bytes
  whole_within bad are e =
      let p = part 0 bytes in
      elim (then_err (read p) (λ x left. and_then (ended left) (λ _ _. done x p)) bad (value_err (inside p read p) bad e)) [
        | inl fault ↦ let le = law.within p bad are fault in omega (arith, le)
        | inr a ↦
            let t = law.takes p a.0 a.1 are a.2 in
            elim (then_err (ended a.1) (λ _ _. done a.0 p) bad a.3) [
              | inl more ↦ omega (arith, ended_err a.1 bad more, t.1.place, ap length t.1.bytes, length-append (spell a.0) a.1.bytes)
              | inr c ↦ let never : done a.0 p ≡ Err bad = c.3 in absurd cc
            ]
      ]

  pub whole_found : (r : Result Y DecodeFault) → AreBytes bytes → Gives r (whole_of read bytes) → IfOk r (λ y. Fits y × (bytes ≡ spell y))
  whole_found (Ok y) are e = whole_takes y are e
  whole_found (Err fault) are e = tt

  pub whole_only : (r : Result Y DecodeFault) (y : Y) → Fits y → bytes ≡ spell y → Gives r (whole_of read bytes) → Gives r (Ok y)
  whole_only r y fits text e = subst (Gives r) (whole_again y fits text) e

  pub whole_in : (r : Result Y DecodeFault) (bad : Bad) → AreBytes bytes → Gives r (whole_of read bytes) → r ≡ Err (faults.Bad bad) → bad.place ≤ length bytes
  whole_in r bad are e is = whole_within bad are (subst (λ s. Gives s (whole_of read bytes)) is e)
