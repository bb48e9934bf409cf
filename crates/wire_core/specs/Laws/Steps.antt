-- A reader and a spelling that say the same: what is read is spelled so, what is spelled so is
-- read, and faults stand in place.
use Rattle.std.proofs.Common.{◌≡◌, ℕ, ◌+◌, ◌<◌, ◌≤◌, ◌⊎◌, inl, inr, Bool, true, false, cond, eqb, List, [], ◌++◌, length, Result, Ok, Err, refl, sym, ap, subst, ◌∙◌, append_assoc, length-append, arith}
use Rattle.std.proofs.lemmas.List.{append-nil}
use Rattle.wire_core.specs.declared.bad.Bad.{Bad}
use Rattle.wire_core.specs.declared.bad.Reason.{Reason}
use Rattle.wire_core.specs.Part.{Part, part, end_of}
use Rattle.wire_core.specs.Spelling.{AreBytes}
use Rattle.wire_core.specs.Layout.{Follows, IsLayout}
use Rattle.wire_core.specs.Reading.{Reader, and_then, done, refused, allowed, place_at, pair_at}
use Rattle.wire_core.specs.Laws.Bytes.{AreBytes-behind}

-- anything may stand behind, or nothing
abbrev pub Anything : List ℕ → Type 0
Anything rest = Unit {0}

abbrev pub Nothing : List ℕ → Type 0
Nothing rest = rest ≡ []

-- a fact that holds of each value
abbrev pub Always : {Y : Type 0} → Y → Type 0
Always y = Unit {0}

-- In parts that end at n at most, and of the values that fit and have the fields that are known by
-- then, `read` takes exactly what `spell` gives, where what is after it may stand there. No fault
-- stands behind n.
pub record Lays (n : ℕ) {Y : Type 0} (After : List ℕ → Type 0) (Known Fits : Y → Type 0)
    (spell : Y → List ℕ) (read : Reader Y) : Type 0 where
  pub takes : (p : Part) (y : Y) (q : Part) → AreBytes p.bytes → end_of p ≤ n → read p ≡ Ok (y, q)
      → Known y × Fits y × Follows p (spell y) q
  pub again : (place : ℕ) (y : Y) (rest : List ℕ) → place + length (spell y) ≤ n → Known y → Fits y
      → After rest → read (part place (spell y ++ rest)) ≡ Ok
      (y, part (place + length (spell y)) rest)
  pub within : (p : Part) (bad : Bad) → AreBytes p.bytes → end_of p ≤ n → read p ≡ Err bad
      → bad.place ≤ n

-- a layout is one in each part
pub laid : {Y : Type 0} {Fits : Y → Type 0} {spell : Y → List ℕ} {read : Reader Y}
    → ((n : ℕ) → Lays n Anything Always Fits spell read) → IsLayout Fits spell read
laid {Y} {Fits} {spell} {read} law = record {
  takes = λ p y q bytes e. let t = (law (end_of p)).takes p y q bytes (omega arith) e in (t.1, t.2);
  again = λ place y rest fits. (law (place + length (spell y))).again place y rest
      (omega arith) tt fits tt;
  within = λ p bad bytes e. (law (end_of p)).within p bad bytes (omega arith) e;
}

-- a step that didn't fail
pub then_ok : {A B : Type 0} (r : Result (A × Part) Bad) (next : A → Reader B) (y : B × Part)
    → and_then r next ≡ Ok y → (x : A) × (m : Part) × (r ≡ Ok (x, m)) × (next x m ≡ Ok y)
then_ok (Ok x) next y e = (x.0, x.1, refl, e)
then_ok (Err bad) next y e = absurd cc

-- where a fault comes from
pub then_err : {A B : Type 0} (r : Result (A × Part) Bad) (next : A → Reader B) (bad : Bad)
    → and_then r next ≡ Err bad → (r ≡ Err bad) ⊎
    ((x : A) × (m : Part) × (r ≡ Ok (x, m)) × (next x m ≡ Err bad))
then_err (Ok x) next bad e = inr (x.0, x.1, refl, e)
then_err (Err found) next bad e = let same : found ≡ bad = cc in inl (ap (λ (b : Bad). Err b) same)

abbrev fine : {A : Type 0} → A → Result A Bad
fine x = Ok x

pub ok_is : {A : Type 0} (x y : A) → fine x ≡ fine y → x ≡ y
ok_is x y e = cc

-- the place of a fault that was refused there
pub refused_at : {A : Type 0} (place : ℕ) (reason : Reason) (p : Part) (bad : Bad)
    → refused {A = A} place reason p ≡ Err bad → bad.place ≡ place
refused_at {A} place reason p bad e = let same : record { place = place; reason = reason } ≡ bad =
    cc in sym (ap (λ (b : Bad). b.place) same)

pub AreBytes-follows : (p : Part) (text : List ℕ) (q : Part) → AreBytes p.bytes → Follows p text q
    → AreBytes q.bytes
AreBytes-follows p text q fits f = AreBytes-behind text q.bytes (subst AreBytes f.bytes fits)

-- what is left ends where the part does
pub end-follows : (p : Part) (text : List ℕ) (q : Part) → Follows p text q → end_of q ≡ end_of p
end-follows p text q f = omega (arith, f.place, ap length f.bytes, length-append text q.bytes)

pub Follows-then : (p : Part) (a : List ℕ) (m : Part) (b : List ℕ) (q : Part) → Follows p a m
    → Follows m b q → Follows p (a ++ b) q
Follows-then p a m b q f g = record {
  bytes = f.bytes ∙ ap (λ (t : List ℕ). a ++ t) g.bytes ∙ sym (append_assoc a b q.bytes);
  place = omega (arith, f.place, g.place, length-append a b);
}

module _ {n : ℕ} where
  -- a layout, in these parts
  pub known : {Y : Type 0} {Fits : Y → Type 0} {spell : Y → List ℕ} {read : Reader Y}
      → IsLayout Fits spell read → Lays n Anything Always Fits spell read
  known {Y} {Fits} {spell} {read} law = record {
    takes = λ p y q bytes ends e. let t = law.takes p y q bytes e in (tt, t.0, t.1);
    again = λ place y rest ends k fits after. law.again place y rest fits;
    within = λ p bad bytes ends e. let le = law.within p bad bytes e in omega (arith, le, ends);
  }

  -- ---- the law of sequence: a field, and then the rest of the layout

  pub seq : {A Y : Type 0} {After : List ℕ → Type 0} {Known Fits : Y → Type 0} {FitsA : A → Type 0}
      {s : A → List ℕ} {t : Y → List ℕ} {read : Reader A} {next : A → Reader Y}
      → (field : Y → A) → Lays n Anything Always FitsA s read
      → ((x : A) → FitsA x → Lays n After (λ y. (field y ≡ x) × Known y) Fits t (next x))
      → Lays n After Known (λ y. FitsA (field y) × Fits y) (λ y. s (field y) ++ t y)
      (λ p. and_then (read p) next)
  seq {A} {Y} {After} {Known} {Fits} {FitsA} {s} {t} {read} {next} field first others = record {
    takes = λ p y q bytes ends e.
        let a = then_ok (read p) next (y, q) e in
        let f = first.takes p a.0 a.1 bytes ends a.2 in
        let o = (others a.0 f.1).takes a.1 y q (AreBytes-follows p (s a.0) a.1 bytes f.2)
        (omega (arith, ends, end-follows p (s a.0) a.1 f.2)) a.3 in
        let same = o.0.0 in (
          o.0.1,
          (subst FitsA (sym same) f.1, o.1),
          subst (λ (x : A). Follows p (s x ++ t y) q)
              (sym same) (Follows-then p (s a.0) a.1 (t y) q f.2 o.2),
        );
    again = λ place y rest ends known fits after.
        let len : place + length (s (field y)) + length (t y) ≡ place + length
        (s (field y) ++ t y) = omega (arith, length-append (s (field y)) (t y)) in
        let a = first.again place (field y) (t y ++ rest) (omega (arith, len, ends)) tt fits.0 tt in
        let o = (others (field y) fits.0).again (place + length (s (field y))) y rest
        (omega (arith, len, ends)) (refl, known) fits.1 after in
        ap (λ (bytes : List ℕ). and_then (read (part place bytes)) next)
        (append_assoc (s (field y)) (t y) rest)
        ∙ ap (λ r. and_then r next) a ∙ o ∙ ap (λ (k : ℕ). Ok (y, part k rest)) len;
    within = λ p bad bytes ends e.
        elim (then_err (read p) next bad e) [
          | inl here ↦ first.within p bad bytes ends here
          | inr there ↦
              let f = first.takes p there.0 there.1 bytes ends there.2 in
              (others there.0 f.1).within there.1 bad
              (AreBytes-follows p (s there.0) there.1 bytes f.2)
              (omega (arith, ends, end-follows p (s there.0) there.1 f.2)) there.3
        ];
  }

  -- nothing more, where the fields in front say all
  pub done_laid : {Y : Type 0} {After : List ℕ → Type 0} {Known : Y → Type 0} (y : Y) → Known y
      → ((z : Y) → Known z → z ≡ y) → Lays n After Known Always (λ _. []) (done y)
  done_laid {Y} {After} {Known} y known only = record {
    takes = λ p z q bytes ends e.
        let same = ok_is (y, p) (z, q) e in
        let z-is : y ≡ z = ap (λ (r : Y × Part). r.0) same in
        let q-is : p ≡ q = ap (λ (r : Y × Part). r.1) same in (
          subst Known z-is known,
          tt,
          record {
            bytes = ap (λ (r : Part). r.bytes) q-is;
            place =
                omega (arith, ap (λ (r : Part). r.place) q-is);
          },
        );
    again = λ place z rest ends k fits after. let len : place ≡ place + 0 = omega arith in
        rw (only z k) (ap (λ (m : ℕ). Ok (y, part m rest)) len);
    within = λ p bad bytes ends e. absurd cc;
  }

  -- ---- other forms of the same layout

  pub laid_as : {Y : Type 0} {After : List ℕ → Type 0} {Known Fits : Y → Type 0}
      {spell : Y → List ℕ} {read : Reader Y} → (Known' Fits' : Y → Type 0)
      → Lays n After Known Fits spell read → ((y : Y) → Known y → Fits y → Known' y × Fits' y)
      → ((y : Y) → Known' y → Fits' y → Known y × Fits y) → Lays n After Known' Fits' spell read
  laid_as Known' Fits' law there back = record {
    takes = λ p y q bytes ends e. let t = law.takes p y q bytes ends e in let u = there y t.0 t.1 in
        (u.0, u.1, t.2);
    again = λ place y rest ends known fits after. let u = back y known fits in
        law.again place y rest ends u.0 u.1 after;
    within = law.within;
  }

  pub fits_as : {Y : Type 0} {After : List ℕ → Type 0} {Known Fits : Y → Type 0}
      {spell : Y → List ℕ} {read : Reader Y} → (Fits' : Y → Type 0)
      → Lays n After Known Fits spell read → ((y : Y) → Known y → Fits y → Fits' y)
      → ((y : Y) → Known y → Fits' y → Fits y) → Lays n After Known Fits' spell read
  fits_as {Known = Known} Fits' law there back = laid_as Known Fits' law (λ y k f. (k, there y k f))
      (λ y k f. (k, back y k f))

  pub read_as : {Y : Type 0} {After : List ℕ → Type 0} {Known Fits : Y → Type 0}
      {spell : Y → List ℕ} {read : Reader Y} → (read' : Reader Y)
      → Lays n After Known Fits spell read → ((p : Part) → read p ≡ read' p)
      → Lays n After Known Fits spell read'
  read_as read' law same = record {
    takes = λ p y q bytes ends e. law.takes p y q bytes ends (same p ∙ e);
    again = λ place y rest ends known fits after. sym (same (part place _))
        ∙ law.again place y rest ends known fits after;
    within = λ p bad bytes ends e. law.within p bad bytes ends (same p ∙ e);
  }

  pub spelled_as : {Y : Type 0} {After : List ℕ → Type 0} {Known Fits : Y → Type 0}
      {spell : Y → List ℕ} {read : Reader Y} → (spell' : Y → List ℕ)
      → Lays n After Known Fits spell read → ((y : Y) → Known y → Fits y → spell y ≡ spell' y)
      → Lays n After Known Fits spell' read
  spelled_as {Y} {After} {Known} {Fits} {spell} {read} spell' law same = record {
    takes = λ p y q bytes ends e. let t = law.takes p y q bytes ends e in
        (t.0, t.1, subst (λ (text : List ℕ). Follows p text q) (same y t.0 t.1) t.2);
    again = λ place y rest ends known fits after.
        let text = same y known fits in
        subst (λ (text : List ℕ). read (part place (text ++ rest)) ≡ Ok
        (y, part (place + length text) rest)) text
        (law.again place y rest (omega (arith, ends, ap length text)) known fits after);
    within = law.within;
  }

  -- what may have anything behind it may have nothing behind it
  pub at_end : {Y : Type 0} {Known Fits : Y → Type 0} {spell : Y → List ℕ} {read : Reader Y}
      → Lays n Anything Known Fits spell read → Lays n Nothing Known Fits spell read
  at_end law = record {
    takes = law.takes;
    again = λ place y rest ends known fits after. law.again place y rest ends known fits tt;
    within = law.within;
  }

  -- ---- steps that take no bytes

  pub placed : {Y : Type 0} {After : List ℕ → Type 0} {Known Fits : Y → Type 0} {spell : Y → List ℕ}
      {next : ℕ → Reader Y}
      → ((place : ℕ) → place ≤ n → Lays n After Known Fits spell (next place))
      → Lays n After Known Fits spell (λ p. and_then (place_at p) next)
  unfolding place_at
  placed law = record {
    takes = λ p y q bytes ends e. (law p.place (omega (arith, ends))).takes p y q bytes ends e;
    again = λ place y rest ends known fits after. (law place (omega (arith, ends))).again place y
        rest ends known fits after;
    within = λ p bad bytes ends e. (law p.place (omega (arith, ends))).within p bad bytes ends e;
  }

  pub refused_laid : {Y : Type 0} {After : List ℕ → Type 0} {Known Fits : Y → Type 0}
      {spell : Y → List ℕ} {place : ℕ} {reason : Reason}
      → place ≤ n → ((y : Y) → Known y → Fits y → ⊥) → Lays n After Known Fits spell
      (refused place reason)
  refused_laid {Y} {place = place} {reason = reason} le never = record {
    takes = λ p y q bytes ends e. absurd cc;
    again = λ place y rest ends known fits after. absurd (never y known fits);
    within = λ p bad bytes ends e. omega (arith, le, refused_at {A = Y} place reason p bad e);
  }

  -- one layout or another, by a test
  pub chosen : {Y : Type 0} {After : List ℕ → Type 0} {Known Fits : Y → Type 0} {spell : Y → List ℕ}
      {one other : Reader Y} → (test : Bool)
      → (test ≡ true → Lays n After Known Fits spell one)
      → (test ≡ false → Lays n After Known Fits spell other) → Lays n After Known Fits spell
      (cond test one other)
  chosen true yes_law no_law = yes_law refl
  chosen false yes_law no_law = no_law refl

  -- a test that each value passes
  pub tested : {Y : Type 0} {After : List ℕ → Type 0} {Known Fits : Y → Type 0} {spell : Y → List ℕ}
      {next : Reader Y} → (test : Bool) (place : ℕ) (reason : Reason)
      → (test ≡ false → place ≤ n) → ((y : Y) → Known y → Fits y → test ≡ true)
      → (test ≡ true → Lays n After Known Fits spell next)
      → Lays n After Known Fits spell (λ p. and_then (allowed test place reason p) (λ _. next))
  unfolding allowed
  tested true place reason le passes law = law refl
  tested false place reason le passes law = record {
    takes = λ p y q bytes ends e. absurd cc;
    again = λ at y rest ends known fits after. let t = passes y known fits in absurd cc;
    within = λ p bad bytes ends e. let same : record { place = place; reason = reason } ≡ bad =
        cc in omega (arith, le refl, ap (λ (b : Bad). b.place) same);
  }

  -- a test that ends a layout
  pub tested_last : {After : List ℕ → Type 0} {Known Fits : Unit {0} → Type 0}
      → (test : Bool) (place : ℕ) (reason : Reason)
      → (test ≡ false → place ≤ n) → (Known tt → Fits tt → test ≡ true)
      → (test ≡ true → Known tt × Fits tt) → Lays n After Known Fits (λ _. [])
      (allowed test place reason)
  unfolding allowed
  tested_last true place reason le passes back =
      laid_as _ _ (done_laid {Known = Always} tt tt (λ z k. refl)) (λ y k f. back refl)
      (λ y k f. (tt, tt))
  tested_last false place reason le passes back = record {
    takes = λ p y q bytes ends e. absurd cc;
    again = λ at y rest ends known fits after. let t = passes known fits in absurd cc;
    within = λ p bad bytes ends e. let same : record { place = place; reason = reason } ≡ bad =
        cc in omega (arith, le refl, ap (λ (b : Bad). b.place) same);
  }

  -- ---- a field that is the same in each value

  pub seq_fixed : {Y : Type 0} {After : List ℕ → Type 0} {Known Fits : Y → Type 0} {text : List ℕ}
      {t : Y → List ℕ} {read : Reader (Unit {0})} {next : Reader Y}
      → Lays n Anything Always Always (λ _. text) read → Lays n After Known Fits t next
      → Lays n After Known Fits (λ y. text ++ t y) (λ p. and_then (read p) (λ _. next))
  seq_fixed {Known = Known} {Fits = Fits} first others =
      fits_as Fits (seq {Known = Known} (λ y. tt) first
      (λ x _. laid_as _ Fits others (λ y k f. ((refl, k), f)) (λ y k f. (k.1, f))))
      (λ y k f. f.1) (λ y k f. (tt, f))

  -- a value that is made of what was read
  pub made : {A Y : Type 0} {After : List ℕ → Type 0} {Known Fits : Y → Type 0} {FitsA : A → Type 0}
      {s : A → List ℕ} {spell : Y → List ℕ} {read : Reader A} → (make : A → Y)
      → Lays n After Always FitsA s read
      → ((x : A) → FitsA x → Known (make x) × Fits (make x) × (s x ≡ spell (make x)))
      → ((y : Y) → Known y → Fits y → (x : A) × FitsA x × (make x ≡ y))
      → Lays n After Known Fits spell (λ p. and_then (read p) (λ x. done (make x)))
  made {A} {Y} {After} {Known} {Fits} {FitsA} {s} {spell} {read} make law there back = record {
    takes = λ p y q bytes ends e.
        let a = then_ok (read p) (λ x. done (make x)) (y, q) e in
        let t = law.takes p a.0 a.1 bytes ends a.2 in
        let m = there a.0 t.1 in
        let same = ok_is (make a.0, a.1) (y, q) a.3 in
        subst (λ (r : Y × Part). Known r.0 × Fits r.0 × Follows p (spell r.0) r.1) same
        (m.0, m.1, subst (λ (text : List ℕ). Follows p text a.1) m.2 t.2);
    again = λ place y rest ends known fits after.
        let b = back y known fits in
        let m = there b.0 b.1 in
        let text : s b.0 ≡ spell y = m.2 ∙ ap spell b.2 in
        let one = law.again place b.0 rest (omega (arith, ends, ap length text)) tt b.1 after in
        let two : and_then (read (part place (s b.0 ++ rest))) (λ x. done (make x)) ≡ Ok
        (y, part (place + length (s b.0)) rest) =
        ap (λ r. and_then r (λ x. done (make x))) one ∙ ap
        (λ (z : Y). Ok (z, part (place + length (s b.0)) rest)) b.2 in
        subst (λ (t : List ℕ). and_then (read (part place (t ++ rest))) (λ x. done (make x)) ≡ Ok
        (y, part (place + length t) rest)) text two;
    within = λ p bad bytes ends e.
        elim (then_err (read p) (λ x. done (make x)) bad e) [
          | inl here ↦ law.within p bad bytes ends here
          | inr there ↦ let never : done (make there.0) there.1 ≡ Err bad = there.3 in absurd cc
        ];
  }

-- a pair of layouts
pub pair_is_layout : {A B : Type 0} {SpelledA RangeA : A → Type 0} {SpelledB RangeB : B → Type 0}
    {s : A → List ℕ} {t : B → List ℕ} {one : Reader A} {other : Reader B}
    → IsLayout (λ x. SpelledA x × RangeA x) s one → IsLayout (λ y. SpelledB y × RangeB y) t other
    → IsLayout (λ z. (SpelledA z.0 × SpelledB z.1) × (RangeA z.0 × RangeB z.1))
    (λ z. s z.0 ++ t z.1) (pair_at one other)
unfolding pair_at
pair_is_layout {A} {B} {s = s} {t = t} first second =
    laid (λ n. fits_as _ (spelled_as _ (seq {n = n} {Known = Always} (λ (z : A × B). z.0)
    (known first) (λ x _. seq (λ z. z.1) (known second) (λ y _.
    done_laid (x, y) (refl, (refl, tt)) (λ z k. λ i. (k.1.0 i, k.0 i)))))
    (λ z k f. ap (λ text. s z.0 ++ text) (append-nil (t z.1))))
    (λ z k f. ((f.0.0, f.1.0.0), (f.0.1, f.1.0.1)))
    (λ z k f. ((f.0.0, f.1.0), ((f.0.1, f.1.1), tt))))

pub pair-some : (a b : List ℕ) → 0 < length a → 0 < length (a ++ b)
pair-some a b some = omega (arith, some, length-append a b)
