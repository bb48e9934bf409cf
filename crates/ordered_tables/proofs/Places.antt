-- Rows whose keys rise: what is found at a key's place, and what is put there.
use lib.Dec.{T}
use Rattle.std.proofs.Common.{◌≡◌, ℕ, zero, suc, ◌+◌, ◌<◌, ◌≤◌, Bool, true, false, cond, List, [], ◌∷◌, length, get_or, set, insert, Some, None, Result, Ok, Err, refl, ap, sym, subst, ◌∙◌, arith}
use Rattle.std.specs.Prelude.{not}
use Rattle.std.specs.List.{AllWithin, HoldsAt, remove}
use Rattle.std.specs.List.Sorted.{IsSearchInRange, IsBinarySearchResult, IsNonDecreasingBy}
use Rattle.std.proofs.lemmas.Bool.Decides.{nat_tests}
use Rattle.std.specs.declared.cmp.Ordering.TheVariants.{Less, Equal, Greater}
use Rattle.std.specs.Ordering.{nat_cmp, is_eq, eq_by_cmp, match_ordering, ordering_index}
use Rattle.std.specs.Cmp.{nat_cmp_total}
use Rattle.std.specs.FinMap as map
use Rattle.std.specs.FinMap.{is_sorted, find, put}
use Rattle.std.specs.FinMap.Entries.{where_key, find-where_key, is_sorted-where_key}
use Rattle.ordered_tables.specs.Places.{Rises, IsPlace}
use Rattle.ordered_tables.proofs.Trees.{put_seen, first, second, less, below_all}

cmp_below : (a b : ℕ) → a < b → nat_cmp a b ≡ Less
cmp_below a b lt = grind (arith, nat_tests)

cmp_same : (a b : ℕ) → a ≡ b → nat_cmp b a ≡ Equal
cmp_same a b e = grind (arith, nat_tests)

cmp_above : (a b : ℕ) → b < a → nat_cmp a b ≡ Greater
cmp_above a b lt = grind (arith, nat_tests)

below_cmp : (a b : ℕ) → nat_cmp a b ≡ Less → a < b
below_cmp a b e = grind (arith, nat_tests)

same_cmp : (a b : ℕ) → nat_cmp a b ≡ Equal → a ≡ b
same_cmp a b e = grind (arith, nat_tests)

above_cmp : (a b : ℕ) → nat_cmp a b ≡ Greater → b < a
above_cmp a b e = grind (arith, nat_tests)

either_way : (a b : ℕ) → eq_by_cmp nat_cmp a b ≡ eq_by_cmp nat_cmp b a
either_way a b = grind (arith, nat_tests)

turned : {A : Type 0} (b : Bool) (x y : A) → cond (not b) x y ≡ cond b y x
turned true x y = refl
turned false x y = refl

module _ {X : Type 0} where
  -- a key below all is below each
  below_each : (x : ℕ) (es : List (ℕ × X)) → T (below_all nat_cmp x es) → (j : ℕ) (d : ℕ × X) → j < length es → x < (get_or es j d).0
  below_each x [] h j d lt = absurd (omega arith)
  below_each x (e ∷ es) h zero d lt = below_cmp x e.0 (less _ (first _ _ h))
  below_each x (e ∷ es) h (suc j) d lt = below_each x es (second _ _ h) j d (omega arith)

  -- of two keys the one behind isn't below
  rising_each : (es : List (ℕ × X)) → Rises es → (i j : ℕ) (d : ℕ × X) → i ≤ j → j < length es → (get_or es i d).0 ≤ (get_or es j d).0
  rising_each [] s i j d le lt = absurd (omega arith)
  rising_each (e ∷ es) s zero zero d le lt = omega arith
  rising_each (e ∷ es) s zero (suc j) d le lt = let b = below_each e.0 es (first _ _ s) j d (omega arith) in omega (arith, b)
  rising_each (e ∷ es) s (suc i) zero d le lt = absurd (omega arith)
  rising_each (e ∷ es) s (suc i) (suc j) d le lt = rising_each es (second _ _ s) i j d (omega arith) (omega arith)

  -- a binary search by key ends at the key, or where it would stand
  searchable : (es : List (ℕ × X)) (key : ℕ) → Rises es → IsNonDecreasingBy (λ row. ordering_index (nat_cmp row.0 key)) es
  searchable es key s i j d le lt = let r = rising_each es s i j d le lt in grind (arith, nat_tests, r)

  pub searched : (es : List (ℕ × X)) (key : ℕ) (r : Result ℕ ℕ) → Rises es → IsSearchInRange r (length es) → IsBinarySearchResult (λ row. nat_cmp row.0 key) es r → IsPlace key es r
  searched es key (Ok i) s within is = (within, λ d. same_cmp _ key (is d))
  searched es key (Err i) s within is =
      let parted = is (searchable es key s) in
      (within, λ k d low high. below_cmp _ key (parted.0 k d low high), λ k d low high. above_cmp _ key (parted.1 k d low high))

  -- what is found at a place
  find_there : (es : List (ℕ × X)) (key i : ℕ) (d : ℕ × X) → Rises es → i < length es → (get_or es i d).0 ≡ key → find nat_cmp key es ≡ Some (get_or es i d).1
  find_there [] key i d s lt e = absurd (omega arith)
  find_there (row ∷ es) key zero d s lt e = ap (λ r. cond (is_eq r) (Some row.1) (find nat_cmp key es)) (cmp_same row.0 key e)
  find_there (row ∷ es) key (suc i) d s lt e =
      let b = below_each row.0 es (first _ _ s) i d (omega arith) in
      ap (λ r. cond (is_eq r) (Some row.1) (find nat_cmp key es)) (cmp_above key row.0 (omega (arith, b, e)))
      ∙ find_there es key i d (second _ _ s) (omega arith) e

  -- nothing is found where a key would stand
  find_gap : (es : List (ℕ × X)) (key i : ℕ) → AllWithin (λ row. row.0 < key) es 0 i → AllWithin (λ row. key < row.0) es i (length es) → find nat_cmp key es ≡ None
  find_gap [] key i below above = refl
  find_gap (row ∷ es) key zero below above =
      ap (λ r. cond (is_eq r) (Some row.1) (find nat_cmp key es)) (cmp_below key row.0 (above 0 row (omega arith) (omega arith)))
      ∙ find_gap es key zero (λ k d l h. absurd (omega arith)) (λ k d l h. above (suc k) d (omega arith) (omega arith))
  find_gap (row ∷ es) key (suc i) below above =
      ap (λ r. cond (is_eq r) (Some row.1) (find nat_cmp key es)) (cmp_above key row.0 (below 0 row (omega arith) (omega arith)))
      ∙ find_gap es key i (λ k d l h. below (suc k) d (omega arith) (omega arith)) (λ k d l h. above (suc k) d (omega arith) (omega arith))

  -- what is put at a place
  put_there : (es : List (ℕ × X)) (key i : ℕ) (d : ℕ × X) (w : X) → Rises es → i < length es → (get_or es i d).0 ≡ key → set es i ((get_or es i d).0, w) ≡ put nat_cmp key w es
  put_there [] key i d w s lt e = absurd (omega arith)
  put_there (row ∷ es) key zero d w s lt e =
      sym (ap (λ r. match_ordering r ((key, w) ∷ row ∷ es) ((row.0, w) ∷ es) (row ∷ put nat_cmp key w es)) (cmp_same row.0 key e))
  put_there (row ∷ es) key (suc i) d w s lt e =
      let b = below_each row.0 es (first _ _ s) i d (omega arith) in
      ap (λ rest. row ∷ rest) (put_there es key i d w (second _ _ s) (omega arith) e)
      ∙ sym (ap (λ r. match_ordering r ((key, w) ∷ row ∷ es) ((row.0, w) ∷ es) (row ∷ put nat_cmp key w es)) (cmp_above key row.0 (omega (arith, b, e))))

  put_gap : (es : List (ℕ × X)) (key i : ℕ) (w : X) → i ≤ length es → AllWithin (λ row. row.0 < key) es 0 i → AllWithin (λ row. key < row.0) es i (length es) → insert es i (key, w) ≡ put nat_cmp key w es
  put_gap [] key zero w le below above = refl
  put_gap [] key (suc i) w le below above = absurd (omega arith)
  put_gap (row ∷ es) key zero w le below above =
      sym (ap (λ r. match_ordering r ((key, w) ∷ row ∷ es) ((row.0, w) ∷ es) (row ∷ put nat_cmp key w es)) (cmp_below key row.0 (above 0 row (omega arith) (omega arith))))
  put_gap (row ∷ es) key (suc i) w le below above =
      ap (λ rest. row ∷ rest) (put_gap es key i w (omega arith) (λ k d l h. below (suc k) d (omega arith) (omega arith)) (λ k d l h. above (suc k) d (omega arith) (omega arith)))
      ∙ sym (ap (λ r. match_ordering r ((key, w) ∷ row ∷ es) ((row.0, w) ∷ es) (row ∷ put nat_cmp key w es)) (cmp_above key row.0 (below 0 row (omega arith) (omega arith))))

  -- what is left where a row is taken out
  abbrev left : (es : List (ℕ × X)) (key : ℕ) → List (ℕ × X)
  left es key = where_key nat_cmp (λ k. not (eq_by_cmp nat_cmp key k)) es

  left_all : (es : List (ℕ × X)) (key : ℕ) → T (below_all nat_cmp key es) → left es key ≡ es
  left_all [] key h = refl
  left_all (row ∷ es) key h =
      ap (λ r. cond (not (is_eq r)) (row ∷ left es key) (left es key)) (less _ (first _ _ h))
      ∙ ap (λ rest. row ∷ rest) (left_all es key (second _ _ h))

  left_there : (es : List (ℕ × X)) (key i : ℕ) (d : ℕ × X) → Rises es → i < length es → (get_or es i d).0 ≡ key → remove es i ≡ left es key
  left_there [] key i d s lt e = absurd (omega arith)
  left_there (row ∷ es) key zero d s lt e =
      sym (ap (λ r. cond (not (is_eq r)) (row ∷ left es key) (left es key)) (cmp_same row.0 key e)
      ∙ left_all es key (subst (λ k. T (below_all nat_cmp k es)) e (first _ _ s)))
  left_there (row ∷ es) key (suc i) d s lt e =
      let b = below_each row.0 es (first _ _ s) i d (omega arith) in
      ap (λ rest. row ∷ rest) (left_there es key i d (second _ _ s) (omega arith) e)
      ∙ sym (ap (λ r. cond (not (is_eq r)) (row ∷ left es key) (left es key)) (cmp_above key row.0 (omega (arith, b, e))))

  find_left : (es : List (ℕ × X)) (key q : ℕ) → find nat_cmp q (left es key) ≡ cond (eq_by_cmp nat_cmp q key) None (find nat_cmp q es)
  find_left es key q =
      find-where_key nat_cmp (λ k. not (eq_by_cmp nat_cmp key k)) q (λ x t. ap (λ k. not (eq_by_cmp nat_cmp key k)) (sym (map.nat_cmp-IsAntisymmetric q x t))) es
      ∙ turned (eq_by_cmp nat_cmp key q) (find nat_cmp q es) None
      ∙ ap (λ b. cond b None (find nat_cmp q es)) (either_way key q)

  -- rows where one is put
  put_rises : (key : ℕ) (w : X) (es : List (ℕ × X)) → Rises es → Rises (put nat_cmp key w es)
  put_rises key w es s =
      let m = map.from_sorted {R = nat_cmp} es in
      subst (λ es. T (is_sorted nat_cmp es)) (map.entries-insert nat_cmp_total m key w ∙ ap (put nat_cmp key w) (map.entries-from_sorted nat_cmp es s)) (map.entries_sorted (map.insert m key w))

  -- the map of rows
  get_there : (es : List (ℕ × X)) (key i : ℕ) (d : ℕ × X) → Rises es → i < length es → (get_or es i d).0 ≡ key → map.get (map.from_sorted {R = nat_cmp} es) key ≡ Some (get_or es i d).1
  get_there es key i d s lt e = map.get-from_sorted nat_cmp es key s ∙ find_there es key i d s lt e

  pub get_gap : (es : List (ℕ × X)) (key i : ℕ) → Rises es → AllWithin (λ row. row.0 < key) es 0 i → AllWithin (λ row. key < row.0) es i (length es) → map.get (map.from_sorted {R = nat_cmp} es) key ≡ None
  get_gap es key i s below above = map.get-from_sorted nat_cmp es key s ∙ find_gap es key i below above

  set_rises : (es : List (ℕ × X)) (key i : ℕ) (d : ℕ × X) (w : X) → Rises es → i < length es → (get_or es i d).0 ≡ key → Rises (set es i ((get_or es i d).0, w))
  set_rises es key i d w s lt e = subst (λ es. T (is_sorted nat_cmp es)) (sym (put_there es key i d w s lt e)) (put_rises key w es s)

  set_there : (es : List (ℕ × X)) (key i : ℕ) (d : ℕ × X) (w : X) → Rises es → i < length es → (get_or es i d).0 ≡ key → map.from_sorted {R = nat_cmp} (set es i ((get_or es i d).0, w)) ≡ map.insert (map.from_sorted es) key w
  set_there es key i d w s lt e =
      put_seen nat_cmp nat_cmp_total es key w _ s (set_rises es key i d w s lt e) (put_there es key i d w s lt e)

  pub insert_rises : (es : List (ℕ × X)) (key i : ℕ) (w : X) → Rises es → i ≤ length es → AllWithin (λ row. row.0 < key) es 0 i → AllWithin (λ row. key < row.0) es i (length es) → Rises (insert es i (key, w))
  insert_rises es key i w s le below above = subst (λ es. T (is_sorted nat_cmp es)) (sym (put_gap es key i w le below above)) (put_rises key w es s)

  pub insert_gap : (es : List (ℕ × X)) (key i : ℕ) (w : X) → Rises es → i ≤ length es → AllWithin (λ row. row.0 < key) es 0 i → AllWithin (λ row. key < row.0) es i (length es) → map.from_sorted {R = nat_cmp} (insert es i (key, w)) ≡ map.insert (map.from_sorted es) key w
  insert_gap es key i w s le below above =
      put_seen nat_cmp nat_cmp_total es key w _ s (insert_rises es key i w s le below above) (put_gap es key i w le below above)

  -- how many rows there are
  pub len_rows : (es : List (ℕ × X)) → Rises es → map.len (map.from_sorted {R = nat_cmp} es) ≡ length es
  len_rows es s = map.len-entries _ ∙ ap length (map.entries-from_sorted nat_cmp es s)

  -- a row that is read at a place, and written there or taken out
  module _ (es : List (ℕ × X)) (key i : ℕ) (row : ℕ × X) (s : Rises es) (within : i < length es) (there : HoldsAt (λ row. row.0 ≡ key) es i) (read : row ≡ get_or es i row) where
    pub read_there : Some row.1 ≡ map.get (map.from_sorted {R = nat_cmp} es) key
    read_there = ap (λ (r : ℕ × X). Some r.1) read ∙ sym (get_there es key i row s within (there row))

    pub written_rises : (w : X) → Rises (set es i (row.0, w))
    written_rises w = subst (λ (r : ℕ × X). Rises (set es i (r.0, w))) (sym read) (set_rises es key i row w s within (there row))

    pub written_there : (w : X) → map.from_sorted {R = nat_cmp} (set es i (row.0, w)) ≡ map.insert (map.from_sorted es) key w
    written_there w = ap (λ (r : ℕ × X). map.from_sorted {R = nat_cmp} (set es i (r.0, w))) read ∙ set_there es key i row w s within (there row)

    pub removed_rises : Rises (remove es i)
    removed_rises = subst (λ es. T (is_sorted nat_cmp es)) (sym (left_there es key i row s within (there row))) (is_sorted-where_key nat_cmp (λ k. not (eq_by_cmp nat_cmp key k)) es s)

    pub removed_there : map.from_sorted {R = nat_cmp} (remove es i) ≡ map.remove (map.from_sorted es) key
    removed_there = map.same_map nat_cmp_total map.nat_cmp-IsAntisymmetric _ _ (λ q.
        map.get-from_sorted nat_cmp (remove es i) q removed_rises
        ∙ ap (find nat_cmp q) (left_there es key i row s within (there row))
        ∙ find_left es key q
        ∙ ap (cond (eq_by_cmp nat_cmp q key) None) (sym (map.get-from_sorted nat_cmp es q s))
        ∙ sym (map.get-remove nat_cmp_total (map.from_sorted es) key q))
