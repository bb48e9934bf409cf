-- Lists of entries that fill a part, in both directions.
use Rattle.std.proofs.Common.{◌≡◌, ℕ, zero, suc, ◌+◌, ◌^◌, ◌<◌, ◌≤◌, true, false, cond, eqb, List, [], ◌∷◌, ◌++◌, length, All, Ok, Err, inl, inr, refl, sym, ap, subst, ◌∙◌, length-append, arith}
use Rattle.std.specs.List.{flat_map, AllByRecursion}
use Rattle.std.proofs.lemmas.Bool.{ne_eqb}
use Rattle.std.proofs.lemmas.List.{append-nil}
use Rattle.std.proofs.lemmas.List.Elements.{All-from_recursion, recursion_from_All}
use Rattle.wire_core.specs.Spelling.{AreBytes, number, vector}
use Rattle.wire_core.specs.declared.bad.Bad.{Bad}
use Rattle.wire_core.specs.Part.{Part, part, end_of}
use Rattle.wire_core.specs.Layout.{Follows, IsLayout}
use Rattle.wire_core.specs.Reading.{Reader, and_then, ◌>>=◌, done, entries_at, list_at, vector_at, sized_at}
use Rattle.wire_core.specs.Laws.Steps.{Anything, Nothing, Always, Lays, known, at_end, fits_as, spelled_as, Follows-then, AreBytes-follows, end-follows, then_ok, then_err, ok_is}
use Rattle.wire_core.specs.Laws.Words.{vector_laid, sized_laid}

module _ {n : ℕ} {A : Type 0} {Fits : A → Type 0} {s : A → List ℕ} {read : Reader A}
    (law : Lays n Anything Always Fits s read) where
  -- what was read is spelled so
  entries_take : (k : ℕ) (p : Part) (xs : List A) (q : Part) → AreBytes p.bytes → end_of p ≤ n
      → entries_at read k p ≡ Ok (xs, q) → AllByRecursion Fits xs × Follows p (flat_map s xs) q
  unfolding entries_at
  entries_take zero p xs q bytes ends e =
      subst (λ (r : List A × Part). AllByRecursion Fits r.0 × Follows p (flat_map s r.0) r.1)
      (ok_is ([], p) (xs, q) e) (tt, record { bytes = refl; place = omega arith })
  entries_take (suc k) p xs q bytes ends e =
      elim (eqb (length p.bytes) 0) as
      (λ b. cond b (Ok ([], p))
      (and_then (read p) (λ x. entries_at read k >>= λ ys. done (x ∷ ys))) ≡ Ok (xs, q)
      → AllByRecursion Fits xs × Follows p (flat_map s xs) q) [
        | true ↦ λ f. subst (λ (r : List A × Part). AllByRecursion Fits r.0 × Follows p
            (flat_map s r.0) r.1) (ok_is ([], p) (xs, q) f)
            (tt, record { bytes = refl; place = omega arith })
        | false ↦ λ f.
            let a = then_ok (read p) (λ x. entries_at read k >>= λ ys. done (x ∷ ys)) (xs, q) f in
            let b = then_ok (entries_at read k a.1) (λ ys. done (a.0 ∷ ys)) (xs, q) a.3 in
            let first = law.takes p a.0 a.1 bytes ends a.2 in
            let others = entries_take k a.1 b.0 b.1 (AreBytes-follows p (s a.0) a.1 bytes first.2)
            (omega (arith, ends, end-follows p (s a.0) a.1 first.2)) b.2 in
            subst (λ (r : List A × Part). AllByRecursion Fits r.0 × Follows p (flat_map s r.0) r.1)
            (ok_is (a.0 ∷ b.0, b.1) (xs, q) b.3)
            ((first.1, others.0), Follows-then p (s a.0) a.1 (flat_map s b.0) b.1 first.2 others.1)
      ] e

  -- what is spelled so is read
  entries_again : ((x : A) → Fits x → 0 < length (s x)) → (k place : ℕ) (xs : List A)
      → length (flat_map s xs) ≤ k → place + length (flat_map s xs) ≤ n → AllByRecursion Fits xs
      → entries_at read k (part place (flat_map s xs)) ≡ Ok
      (xs, part (place + length (flat_map s xs)) [])
  unfolding entries_at
  entries_again some zero place [] le ends fits = let e : place ≡ place + 0 = omega arith in
      ap (λ (m : ℕ). Ok ([], part m [])) e
  entries_again some zero place (x ∷ xs) le ends fits =
      absurd (omega (arith, some x fits.0, length-append (s x) (flat_map s xs)))
  entries_again some (suc k) place [] le ends fits = let e : place ≡ place + 0 = omega arith in
      ap (λ (m : ℕ). Ok ([], part m [])) e
  entries_again some (suc k) place (x ∷ xs) le ends fits =
      let lt = some x fits.0 in
      let left : eqb (length (s x ++ flat_map s xs)) 0 ≡ false =
      ne_eqb _ _ (omega (arith, lt, length-append (s x) (flat_map s xs))) in
      let len : place + length (s x) + length (flat_map s xs) ≡ place + length
      (s x ++ flat_map s xs) = omega (arith, length-append (s x) (flat_map s xs)) in
      let others = entries_again some k (place + length (s x)) xs
      (omega (arith, lt, length-append (s x) (flat_map s xs))) (omega (arith, len, ends)) fits.1
      in
      rw (
        left,
        law.again place x (flat_map s xs) (omega (arith, len, ends)) tt fits.0 tt,
        others,
        len,
      ) refl

  -- a fault is that of an entry
  entries_within : (k : ℕ) (p : Part) (bad : Bad) → AreBytes p.bytes → end_of p ≤ n
      → entries_at read k p ≡ Err bad → bad.place ≤ n
  unfolding entries_at
  entries_within zero p bad bytes ends e = absurd cc
  entries_within (suc k) p bad bytes ends e =
      elim (eqb (length p.bytes) 0) as
      (λ b. cond b (Ok ([], p))
      (and_then (read p) (λ x. entries_at read k >>= λ ys. done (x ∷ ys))) ≡ Err bad
      → bad.place ≤ n) [
        | true ↦ λ f. absurd cc
        | false ↦ λ f.
            elim (then_err (read p) (λ x. entries_at read k >>= λ ys. done (x ∷ ys)) bad f) [
              | inl here ↦ law.within p bad bytes ends here
              | inr a ↦
                  let first = law.takes p a.0 a.1 bytes ends a.2 in
                  elim (then_err (entries_at read k a.1) (λ ys. done (a.0 ∷ ys)) bad a.3) [
                    | inl there ↦ entries_within k a.1 bad
                        (AreBytes-follows p (s a.0) a.1 bytes first.2)
                        (omega (arith, ends, end-follows p (s a.0) a.1 first.2)) there
                    | inr b ↦ let never : done (a.0 ∷ b.0) b.1 ≡ Err bad = b.3 in absurd cc
                  ]
            ]
      ] e

  -- the entries that fill a part
  pub list_laid : ((x : A) → Fits x → 0 < length (s x)) → Lays n Nothing Always (All Fits)
      (flat_map s) (list_at read)
  unfolding list_at
  list_laid some = record {
    takes = λ p xs q bytes ends e. let t = entries_take (length p.bytes) p xs q bytes ends e in
        (tt, All-from_recursion Fits xs t.0, t.1);
    again = λ place xs rest ends known fits after.
        let text : flat_map s xs ++ rest ≡ flat_map s xs =
        ap (λ (r : List ℕ). flat_map s xs ++ r) after ∙ append-nil (flat_map s xs) in
        let one = entries_again some (length (flat_map s xs)) place xs (omega arith) ends
        (recursion_from_All Fits xs fits) in
        ap (λ (bytes : List ℕ). entries_at read (length bytes) (part place bytes)) text ∙ one ∙ ap
        (λ (r : List ℕ). Ok (xs, part (place + length (flat_map s xs)) r)) (sym after);
    within = λ p bad bytes ends e. entries_within (length p.bytes) p bad bytes ends e;
  }

module _ {n : ℕ} {A : Type 0} {Spelled InRange : A → Type 0} {s : A → List ℕ}
    {read : Reader A} where
  -- the structures that fill a part
  pub all_laid : IsLayout (λ x. Spelled x × InRange x) s read
      → ((x : A) → Spelled x → 0 < length (s x))
      → Lays n Nothing Always (λ xs. All Spelled xs × All InRange xs) (flat_map s) (list_at read)
  all_laid law some = fits_as _ (list_laid (known law) (λ x f. some x f.0))
      (λ xs k f. (λ i x at. (f i x at).0, λ i x at. (f i x at).1))
      (λ xs k f. λ i x at. (f.0 i x at, f.1 i x at))

  -- a vector of structures
  pub vector_of : (k : ℕ) → IsLayout (λ x. Spelled x × InRange x) s read
      → ((x : A) → Spelled x → 0 < length (s x))
      → Lays n Anything Always
      (λ xs. (length (flat_map s xs) < 256 ^ k) × (All Spelled xs × All InRange xs))
      (λ xs. vector k (flat_map s xs)) (vector_at k (list_at read))
  vector_of k law some = vector_laid k (all_laid law some)

  -- a part of one size that a structure fills
  pub sized_of : (k size : ℕ) → size < 256 ^ k → ((x : A) → Spelled x → length (s x) ≡ size)
      → IsLayout (λ x. Spelled x × InRange x) s read
      → Lays n Anything Always (λ x. Spelled x × InRange x) (λ x. vector k (s x))
      (sized_at k size read)
  sized_of k size small len_is law =
      spelled_as (λ x. vector k (s x))
      (sized_laid k size small (λ x f. len_is x f.0) (at_end (known law)))
      (λ x _ f. ap (λ (m : ℕ). number k m ++ s x) (sym (len_is x f.0)))
