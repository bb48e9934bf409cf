-- A value of one of several forms, each behind its code: what is read under each code, and what is
-- spelled is read again under its own.
use Rattle.std.proofs.Common.{◌≡◌, ℕ, ◌+◌, ◌<◌, ◌≤◌, inl, inr, cond, eqb, List, [], ◌∷◌, ◌++◌, length, Result, Ok, Err, refl, sym, ap, subst, ◌∙◌, arith}
use Rattle.std.proofs.lemmas.Bool.{eqb-true, cond_both}
use Rattle.std.proofs.lemmas.List.{append-nil}
use Rattle.wire_core.specs.declared.bad.Bad.{Bad}
use Rattle.wire_core.specs.declared.bad.Reason.{Reason}
use Rattle.wire_core.specs.Part.{Part, part, end_of}
use Rattle.wire_core.specs.Spelling.{AreBytes, joined}
use Rattle.wire_core.specs.Layout.{Follows}
use Rattle.wire_core.specs.Reading.{Reader, and_then, done, refused}
use Rattle.wire_core.specs.Laws.Steps.{Anything, Nothing, Always, Lays, then_ok, then_err, ok_is, refused_at, seq, done_laid, spelled_as}

-- the half of a law about what is read
pub record Takes (n : ℕ) {Y : Type 0} (Known Fits : Y → Type 0) (spell : Y → List ℕ)
    (read : Reader Y) : Type 0 where
  pub takes : (p : Part) (y : Y) (q : Part) → AreBytes p.bytes → end_of p ≤ n → read p ≡ Ok (y, q)
      → Known y × Fits y × Follows p (spell y) q
  pub within : (p : Part) (bad : Bad) → AreBytes p.bytes → end_of p ≤ n → read p ≡ Err bad
      → bad.place ≤ n

-- the half of a law about what is spelled, for one value
pub record Again (n : ℕ) {Y : Type 0} (After : List ℕ → Type 0) (y : Y) (text : List ℕ)
    (read : Reader Y) : Type 0 where
  pub again : (place : ℕ) (rest : List ℕ) → place + length text ≤ n → After rest
      → read (part place (text ++ rest)) ≡ Ok (y, part (place + length text) rest)

-- its code is this one
abbrev pub HasCode : {Y : Type 0} → (Y → ℕ) → ℕ → Y → Type 0
HasCode code_of code y = (code_of y ≡ code) × Unit {0}

-- two values as one
abbrev paired : {A B : Type 0} → A → B → Reader (A × B)
paired x y p = Ok ((x, y), p)

-- a value that is made of what was read last is made of all that was read
last_of : {A B Y : Type 0} (make : A → B → Y) (x : A) (r : Result (B × Part) Bad)
    → and_then r (λ y. done (make x y)) ≡ and_then (and_then r (λ y. paired x y))
    (λ v. done (make v.0 v.1))
last_of make x (Ok y) = refl
last_of make x (Err bad) = refl

both_of : {A B Y : Type 0} (make : A → B → Y) (r : Result (A × Part) Bad) (other : Reader B)
    → and_then r (λ x p. and_then (other p) (λ y. done (make x y)))
    ≡ and_then (and_then r (λ x p. and_then (other p) (λ y. paired x y)))
    (λ v. done (make v.0 v.1))
both_of make (Ok x) other = last_of make x.0 (other x.1)
both_of make (Err bad) other = refl

lasts_of : {A B C Y : Type 0} (make : A → B → C → Y) (x : A) (y : B) (r : Result (C × Part) Bad)
    → and_then r (λ z. done (make x y z))
    ≡ and_then (and_then (and_then r (λ z. paired y z)) (λ v. paired x v))
    (λ v. done (make v.0 v.1.0 v.1.1))
lasts_of make x y (Ok z) = refl
lasts_of make x y (Err bad) = refl

pairs_of : {A B C Y : Type 0} (make : A → B → C → Y) (x : A) (r : Result (B × Part) Bad)
    (third : Reader C)
    → and_then r (λ y q. and_then (third q) (λ z. done (make x y z)))
    ≡ and_then (and_then (and_then r (λ y q. and_then (third q) (λ z. paired y z)))
    (λ v. paired x v))
    (λ v. done (make v.0 v.1.0 v.1.1))
pairs_of make x (Ok y) third = lasts_of make x y.0 (third y.1)
pairs_of make x (Err bad) third = refl

all_of : {A B C Y : Type 0} (make : A → B → C → Y) (r : Result (A × Part) Bad) (second : Reader B)
    (third : Reader C)
    → and_then r (λ x p. and_then (second p) (λ y q. and_then (third q) (λ z. done (make x y z))))
    ≡ and_then (and_then r
    (λ x p. and_then (and_then (second p) (λ y q. and_then (third q) (λ z. paired y z)))
    (λ v. paired x v)))
    (λ v. done (make v.0 v.1.0 v.1.1))
all_of make (Ok x) second third = pairs_of make x.0 (second x.1) third
all_of make (Err bad) second third = refl

module _ {n : ℕ} where
  -- ---- what is read under each code

  pub takes_made : {A Y : Type 0} {After : List ℕ → Type 0} {Known Fits : Y → Type 0}
      {FitsA : A → Type 0} {s : A → List ℕ} {spell : Y → List ℕ} {read : Reader A} → (make : A → Y)
      → Lays n After Always FitsA s read
      → ((x : A) → FitsA x → Known (make x) × Fits (make x) × (s x ≡ spell (make x)))
      → Takes n Known Fits spell (λ p. and_then (read p) (λ x. done (make x)))
  takes_made {Y = Y} {Known = Known} {Fits = Fits} {s = s} {spell = spell}
      {read = read} make law there = record {
        takes = λ p y q bytes ends e.
            let a = then_ok (read p) (λ x. done (make x)) (y, q) e in
            let t = law.takes p a.0 a.1 bytes ends a.2 in
            let m = there a.0 t.1 in
            let same = ok_is (make a.0, a.1) (y, q) a.3 in
            subst (λ (r : Y × Part). Known r.0 × Fits r.0 × Follows p (spell r.0) r.1) same
            (m.0, m.1, subst (λ (text : List ℕ). Follows p text a.1) m.2 t.2);
        within = λ p bad bytes ends e.
            elim (then_err (read p) (λ x. done (make x)) bad e) [
              | inl here ↦ law.within p bad bytes ends here
              | inr there ↦ let never : done (make there.0) there.1 ≡ Err bad = there.3 in absurd cc
            ];
      }

  pub takes_laid : {Y : Type 0} {After : List ℕ → Type 0} {Known Fits : Y → Type 0}
      {spell : Y → List ℕ} {read : Reader Y} → (Known' Fits' : Y → Type 0)
      → Lays n After Known Fits spell read → ((y : Y) → Known y → Fits y → Known' y × Fits' y)
      → Takes n Known' Fits' spell read
  takes_laid Known' Fits' law there = record {
    takes = λ p y q bytes ends e. let t = law.takes p y q bytes ends e in let u = there y t.0 t.1 in
        (u.0, u.1, t.2);
    within = law.within;
  }

  -- under a code that is a number, or another
  pub takes_code : {Y : Type 0} {Fits : Y → Type 0} {body : Y → List ℕ} {code_of : Y → ℕ} {code : ℕ}
      {one other : Reader Y} → (k : ℕ)
      → Takes n (HasCode code_of k) Fits body one → Takes n (HasCode code_of code) Fits body other
      → Takes n (HasCode code_of code) Fits body (cond (eqb code k) one other)
  takes_code {code_of = code_of} {code = code} {one = one} {other = other} k law others =
      cond_both (eqb code k) one other (Takes n (HasCode code_of code) _ _)
      (λ is. let e = eqb-true code k is in record {
        takes = λ p y q bytes ends r. let t = law.takes p y q bytes ends r in
            ((t.0.0 ∙ sym e, tt), t.1, t.2);
        within = law.within;
      }) (λ isnt. others)

  -- no code is left
  pub takes_none : {Y : Type 0} {Known Fits : Y → Type 0} {spell : Y → List ℕ} {place : ℕ}
      {reason : Reason} → place ≤ n → Takes n Known Fits spell (refused place reason)
  takes_none {Y} {place = place} {reason = reason} le = record {
    takes = λ p y q bytes ends e. absurd cc;
    within = λ p bad bytes ends e. omega (arith, le, refused_at {A = Y} place reason p bad e);
  }

  -- what is spelled is read again under its code
  pub again_made : {A Y : Type 0} {After : List ℕ → Type 0} {FitsA : A → Type 0} {s : A → List ℕ}
      {read : Reader A} → (make : A → Y) → Lays n After Always FitsA s read → (x : A) → FitsA x
      → Again n After (make x) (s x) (λ p. and_then (read p) (λ y. done (make y)))
  again_made make law x fits =
      record {
        again = λ place rest ends after. ap (λ r. and_then r (λ y. done (make y)))
            (law.again place x rest ends tt fits after);
      }

  -- both at once: the forms of a value by their codes
  pub forms_laid : {Y : Type 0} {After : List ℕ → Type 0} {Fits : Y → Type 0} {body : Y → List ℕ}
      {code_of : Y → ℕ} {of : ℕ → Reader Y} {limit : ℕ}
      → ((code : ℕ) → code < limit → Takes n (HasCode code_of code) Fits body (of code))
      → ((y : Y) → Fits y → Again n After y (body y) (of (code_of y)))
      → (code : ℕ) → code < limit → Lays n After (HasCode code_of code) Fits body (of code)
  forms_laid {Y} {body = body} {of = of} there back code lt = record {
    takes = (there code lt).takes;
    again = λ place y rest ends known fits after.
        subst (λ (c : ℕ). of c (part place (body y ++ rest)) ≡ Ok
        (y, part (place + length (body y)) rest)) known.0
        ((back y fits).again place rest ends after);
    within = (there code lt).within;
  }

  -- ---- the same of another reading

  takes_read : {Y : Type 0} {Known Fits : Y → Type 0} {spell : Y → List ℕ} {read : Reader Y}
      → (read' : Reader Y)
      → Takes n Known Fits spell read → ((p : Part) → read p ≡ read' p)
      → Takes n Known Fits spell read'
  takes_read read' law same = record {
    takes = λ p y q bytes ends e. law.takes p y q bytes ends (same p ∙ e);
    within = λ p bad bytes ends e. law.within p bad bytes ends (same p ∙ e);
  }

  again_read : {Y : Type 0} {After : List ℕ → Type 0} {y : Y} {text : List ℕ} {read : Reader Y}
      → (read' : Reader Y)
      → Again n After y text read → ((p : Part) → read p ≡ read' p) → Again n After y text read'
  again_read {text = text} read' law same = record {
    again = λ place rest ends after. sym (same (part place (text ++ rest)))
        ∙ law.again place rest ends after;
  }

  -- what may have anything behind it may have nothing behind it
  pub again_end : {Y : Type 0} {y : Y} {text : List ℕ} {read : Reader Y}
      → Again n Anything y text read → Again n Nothing y text read
  again_end law = record { again = λ place rest ends after. law.again place rest ends tt }

  -- ---- no field

  pub done_takes : {Y : Type 0} {Known Fits : Y → Type 0} {spell : Y → List ℕ} (y : Y) → Known y
      → Fits y → spell y ≡ []
      → Takes n Known Fits spell (done y)
  done_takes {Y} {Known} {Fits} {spell} y is fits none =
      takes_laid Known Fits
      (spelled_as spell (done_laid {After = Anything} {Known = λ z. z ≡ y} y refl (λ z k. k))
      (λ z k f. sym (ap spell k ∙ none)))
      (λ z k f. subst (λ (x : Y). Known x × Fits x) (sym k) (is, fits))

  pub done_again : {Y : Type 0} (y : Y) → Again n Anything y [] (done y)
  done_again y = record {
    again = λ place rest ends after.
        let len : place ≡ place + 0 = omega arith in ap (λ (m : ℕ). Ok (y, part m rest)) len;
  }

  -- ---- two fields

  module _ {A B : Type 0} {FitsA : A → Type 0} {FitsB : B → Type 0} {s : A → List ℕ}
      {t : B → List ℕ} {one : Reader A} {other : Reader B}
      (first : Lays n Anything Always FitsA s one) (second : Lays n Anything Always FitsB t other)
    where
      pub pair_laid : Lays n Anything Always (λ (v : A × B). FitsA v.0 × (FitsB v.1 × Unit {0}))
          (λ v. joined (s v.0 ∷ t v.1 ∷ []))
          (λ p. and_then (one p) (λ x q. and_then (other q) (λ y. paired x y)))
      pair_laid = seq {Known = Always} (λ (v : A × B). v.0) first
          (λ x _. seq (λ v. v.1) second (λ y _.
          done_laid (x, y) (refl, (refl, tt)) (λ v k. λ i. (k.1.0 i, k.0 i))))

      pub two_take : {Y : Type 0} {Known Fits : Y → Type 0} {spell : Y → List ℕ} (make : A → B → Y)
          → ((x : A) (y : B) → FitsA x → FitsB y → Known (make x y) × Fits (make x y) ×
          (joined (s x ∷ t y ∷ []) ≡ spell (make x y)))
          → Takes n Known Fits spell
          (λ p. and_then (one p) (λ x q. and_then (other q) (λ y. done (make x y))))
      two_take make there =
          takes_read _ (takes_made (λ v. make v.0 v.1) pair_laid (λ v f. there v.0 v.1 f.0 f.1.0))
          (λ p. sym (both_of make (one p) other))

      pub two_again : {Y : Type 0} (make : A → B → Y) (x : A) (y : B) → FitsA x → FitsB y
          → Again n Anything (make x y) (joined (s x ∷ t y ∷ []))
          (λ p. and_then (one p) (λ x q. and_then (other q) (λ y. done (make x y))))
      two_again make x y f g =
          again_read _ (again_made (λ v. make v.0 v.1) pair_laid (x, y) (f, (g, tt)))
          (λ p. sym (both_of make (one p) other))

  -- ---- three fields

  module _ {A B C : Type 0} {FitsA : A → Type 0} {FitsB : B → Type 0} {FitsC : C → Type 0}
      {s : A → List ℕ} {t : B → List ℕ} {u : C → List ℕ}
      {one : Reader A} {other : Reader B} {third : Reader C}
      (first : Lays n Anything Always FitsA s one) (second : Lays n Anything Always FitsB t other)
      (last : Lays n Anything Always FitsC u third) where
    triple_laid : Lays n Anything Always
        (λ (v : A × (B × C)). FitsA v.0 × ((FitsB v.1.0 × (FitsC v.1.1 × Unit {0})) × Unit {0}))
        (λ v. joined (s v.0 ∷ t v.1.0 ∷ u v.1.1 ∷ []))
        (λ p. and_then (one p)
        (λ x q. and_then (and_then (other q) (λ y r. and_then (third r) (λ z. paired y z)))
        (λ v. paired x v)))
    triple_laid = spelled_as _ (pair_laid first (pair_laid second last))
        (λ v k f. ap (λ (r : List ℕ). s v.0 ++ r) (append-nil _))

    pub three_take : {Y : Type 0} {Known Fits : Y → Type 0} {spell : Y → List ℕ}
        (make : A → B → C → Y)
        → ((x : A) (y : B) (z : C) → FitsA x → FitsB y → FitsC z
        → Known (make x y z) × Fits (make x y z) ×
        (joined (s x ∷ t y ∷ u z ∷ []) ≡ spell (make x y z)))
        → Takes n Known Fits spell
        (λ p. and_then (one p)
        (λ x q. and_then (other q) (λ y r. and_then (third r) (λ z. done (make x y z)))))
    three_take make there =
        takes_read _ (takes_made (λ v. make v.0 v.1.0 v.1.1) triple_laid
        (λ v f. there v.0 v.1.0 v.1.1 f.0 f.1.0.0 f.1.0.1.0))
        (λ p. sym (all_of make (one p) other third))

    pub three_again : {Y : Type 0} (make : A → B → C → Y) (x : A) (y : B) (z : C) → FitsA x
        → FitsB y → FitsC z
        → Again n Anything (make x y z) (joined (s x ∷ t y ∷ u z ∷ []))
        (λ p. and_then (one p)
        (λ x q. and_then (other q) (λ y r. and_then (third r) (λ z. done (make x y z)))))
    three_again make x y z f g h =
        again_read _ (again_made (λ v. make v.0 v.1.0 v.1.1) triple_laid (x, (y, z))
        (f, ((g, (h, tt)), tt))) (λ p. sym (all_of make (one p) other third))
