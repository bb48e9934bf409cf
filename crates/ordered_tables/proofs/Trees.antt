-- The entries of an ordered map of std, as the map that contracts see.
use lib.Dec.{T}
use Rattle.std.proofs.Common.{◌≡◌, ℕ, suc, ◌+◌, Bool, true, false, cond, List, [], ◌∷◌, ◌++◌, refl, ap, sym, subst, ◌∙◌, length, arith, ◌≤◌, ◌<◌, ◌*◌, ◌-◌}
use Rattle.std.specs.Prelude.{Option, Some, None, IsSome, is_some, unwrap_or, if◌then◌else◌, option_map, slice_get, map, sum_by, ◌&&◌}
use Rattle.std.specs.Option.{option_map_or}
use Rattle.std.specs.List.{AllByRecursion, last_or}
use Rattle.std.specs.List.Sorted.{IsStrictlySortedBy}
use Rattle.std.specs.declared.cmp.Ordering.{Ordering}
use Rattle.std.specs.declared.cmp.Ordering.TheVariants.{Less, Equal, Greater}
use Rattle.std.specs.Ordering.{is_eq, is_lt, eq_by_cmp, match_ordering, ordering_reverse}
use Rattle.std.specs.Cmp.{IsTotalOrder, tied_itself}
use Rattle.std.specs.Map.{lookup, remove_entry, set_value, keys_of}
use Rattle.std.specs.BTreeMap.{insert_entry, is_at}
use Rattle.std.proofs.lemmas.List.Sums.{sum_by-cons}
use Rattle.ordered_tables.specs.Seen.{cmp_by, shown, seen, IsRising}
use Rattle.std.specs.FinMap.{FinMap, IsAntisymmetric, entries, get, insert, remove, len, find, put, is_sorted, from_sorted, entries-from_sorted, entries-insert, same_entries_map, same_map, get-remove, get-entries, entries_sorted, empty, empty_of_len, get-from_sorted, len-entries}

both : (a b : Bool) → T a → T b → T (a && b)
both true b p q = q
both false b p q = p

pub first : (a b : Bool) → T (a && b) → T a
first true b p = tt
first false b p = p

pub second : (a b : Bool) → T (a && b) → T b
second true b p = p
second false b p = absurd p

pub less : (o : Ordering) → T (is_lt o) → o ≡ Less
less Less p = refl
less Equal p = absurd p
less Greater p = absurd p

equal : (r : Ordering) → T (is_eq r) → r ≡ Equal
equal Less p = absurd p
equal Equal p = refl
equal Greater p = absurd p

abbrev pub below_all : {L X : Type 0} → (L → L → Ordering) → L → List (L × X) → Bool
below_all R x [] = true
below_all R x (e ∷ es) = is_lt (R x e.0) && below_all R x es

nothing : {X : Type 0} (b : Bool) → ◌≡◌ {A = Option X} None (cond b None None)
nothing true = refl
nothing false = refl

swapped : {A : Type 0} (a b : Bool) (x y z : A) → (T a → T b → ⊥) → cond a x (cond b y z) ≡ cond b y (cond a x z)
swapped true true x y z apart = absurd (apart tt tt)
swapped true false x y z apart = refl
swapped false b x y z apart = refl

-- whether a key of the tree is a given one
abbrev pub at : {K L : Type 0} → (K → L) → (L → L → Ordering) → L → K → Bool
at f R q = is_at (λ k. R q (f k))

module _ {K L X : Type 0} (f : K → L) (R : L → L → Ordering) where
  below : (x : K) (es : List (K × X)) → AllByRecursion (λ y. R (f x) (f y) ≡ Less) (keys_of es) → T (below_all R (f x) (shown f es))
  below x [] h = tt
  below x (e ∷ es) h = both _ _ (subst (λ r. T (is_lt r)) (sym h.0) tt) (below x es h.1)

  pub sorted : (es : List (K × X)) → IsStrictlySortedBy (cmp_by f R) (keys_of es) → T (is_sorted R (shown f es))
  unfolding IsStrictlySortedBy
  sorted [] h = tt
  sorted (e ∷ es) h = both _ _ (below e.0 es h.0) (sorted es h.1)

  pub find-shown : (q : L) (es : List (K × X)) → find R q (shown f es) ≡ lookup (at f R q) es
  find-shown q [] = refl
  find-shown q (e ∷ es) = ap (cond (is_eq (R q (f e.0))) (Some e.1)) (find-shown q es)

  pub shown-insert_entry : (k : K) (v : X) (es : List (K × X)) → shown f (insert_entry (cmp_by f R) es k v) ≡ put R (f k) v (shown f es)
  shown-insert_entry k v [] = refl
  shown-insert_entry k v (e ∷ es) =
      elim (R (f k) (f e.0)) as (λ r. shown f (match_ordering r ((k, v) ∷ e ∷ es) ((e.0, v) ∷ es) (e ∷ insert_entry (cmp_by f R) es k v)) ≡ match_ordering r ((f k, v) ∷ shown f (e ∷ es)) ((f e.0, v) ∷ shown f es) ((f e.0, e.1) ∷ put R (f k) v (shown f es))) [
        | Less ↦ refl
        | Equal ↦ refl
        | Greater ↦ ap (λ rest. (f e.0, e.1) ∷ rest) (shown-insert_entry k v es)
      ]

  pub length-shown : (es : List (K × X)) → length (shown f es) ≡ length es
  length-shown [] = refl
  length-shown (e ∷ es) = ap suc (length-shown es)

module _ {L X : Type 0} (R : L → L → Ordering) (o : IsTotalOrder R) where
  below_less : (x y : L) (es : List (L × X)) → R x y ≡ Less → T (below_all R y es) → T (below_all R x es)
  below_less x y [] p h = tt
  below_less x y (e ∷ es) p h = both _ _ (subst (λ r. T (is_lt r)) (sym (o.trans x y e.0 p (less _ (first _ _ h)))) tt) (below_less x y es p (second _ _ h))

  find_below : (q : L) (es : List (L × X)) → T (below_all R q es) → find R q es ≡ None
  find_below q [] h = refl
  find_below q (e ∷ es) h = ap (λ r. cond (is_eq r) (Some e.1) (find R q es)) (less _ (first _ _ h)) ∙ find_below q es (second _ _ h)

  pub below_tied : (x y : L) (es : List (L × X)) → R x y ≡ Equal → T (below_all R y es) → T (below_all R x es)
  below_tied x y [] p h = tt
  below_tied x y (e ∷ es) p h = both _ _ (subst (λ r. T (is_lt r)) (sym (o.congr x y e.0 p)) (first _ _ h)) (below_tied x y es p (second _ _ h))

  -- the maps of lists that rise
  pub put_seen : (es : List (L × X)) (k : L) (v : X) (fs : List (L × X)) → T (is_sorted R es) → T (is_sorted R fs) → fs ≡ put R k v es → from_sorted {R = R} fs ≡ insert (from_sorted es) k v
  put_seen es k v fs h g e = same_entries_map _ _ (entries-from_sorted R fs g ∙ e ∙ ap (put R k v) (sym (entries-from_sorted R es h)) ∙ sym (entries-insert o (from_sorted es) k v))

  -- what is summed up over the entries, where one is put
  module _ (same : IsAntisymmetric R) (g : L × X → ℕ) where
    summed : (a b c x y : ℕ) → a ≡ x + c → b ≡ x + y → a + y ≡ b + c
    summed a b c x y p q = omega arith

    later : (a b c d x n : ℕ) → a + d ≡ b + c → x + a ≡ n → n + d ≡ x + b + c
    later a b c d x n p q = omega arith

    pub sum-put : (k : L) (v : X) (es : List (L × X)) → T (is_sorted R es)
        → sum_by g (put R k v es) + option_map_or (λ x. g (k, x)) (find R k es) 0 ≡ sum_by g es + g (k, v)
    sum-put k v [] h = omega arith
    sum-put k v (e ∷ es) h =
        elim (R k e.0) as (λ r. R k e.0 ≡ r → sum_by g (match_ordering r ((k, v) ∷ e ∷ es) ((e.0, v) ∷ es) (e ∷ put R k v es)) + option_map_or (λ x. g (k, x)) (cond (is_eq r) (Some e.1) (find R k es)) 0 ≡ sum_by g (e ∷ es) + g (k, v)) [
          | Less ↦ λ p. rw (find_below k es (below_less k e.0 es p (first _ _ h))) (rw (sum_by-cons g (k, v) (e ∷ es)) (omega arith))
          | Equal ↦ λ p. let tied = same k e.0 p in summed _ _ _ (sum_by g es) (g (k, e.1)) (sum_by-cons g (e.0, v) es ∙ ap (λ q. g (q, v) + sum_by g es) (sym tied) ∙ omega arith) (sum_by-cons g e es ∙ ap (λ q. g (q, e.1) + sum_by g es) (sym tied) ∙ omega arith)
          | Greater ↦ λ p. rw (sum_by-cons g e es) (later _ _ _ _ (g e) _ (sum-put k v es (second _ _ h)) (sym (sum_by-cons g e (put R k v es))))
        ] refl

module _ {K L X : Type 0} (f : K → L) (R : L → L → Ordering) (o : IsTotalOrder R) (same : IsAntisymmetric R) where
  -- what a key of the tree has
  pub get_seen : (q : L) (es : List (K × X)) → IsStrictlySortedBy (cmp_by f R) (keys_of es) → get (from_sorted {R = R} (shown f es)) q ≡ lookup (at f R q) es
  get_seen q es h = get-from_sorted R (shown f es) q (sorted f R es h) ∙ find-shown f R q es

  pub insert_seen : (k : K) (v : X) (es fs : List (K × X)) → IsStrictlySortedBy (cmp_by f R) (keys_of es) → IsStrictlySortedBy (cmp_by f R) (keys_of fs) → fs ≡ insert_entry (cmp_by f R) es k v → from_sorted {R = R} (shown f fs) ≡ insert (from_sorted (shown f es)) (f k) v
  insert_seen k v es fs h g e = put_seen R o (shown f es) (f k) v (shown f fs) (sorted f R es h) (sorted f R fs g) (ap (shown f) e ∙ shown-insert_entry f R k v es)

  shown-set_value : (q : L) (w : X) (es : List (K × X)) → T (is_sorted R (shown f es)) → IsSome (lookup (at f R q) es) → shown f (set_value (at f R q) es w) ≡ put R q w (shown f es)
  shown-set_value q w [] h some = absurd (subst T (sym some) tt)
  shown-set_value q w (e ∷ es) h some =
      elim (R q (f e.0)) as (λ r. R q (f e.0) ≡ r → IsSome (cond (is_eq r) (Some e.1) (lookup (at f R q) es)) → shown f (cond (is_eq r) ((e.0, w) ∷ es) (e ∷ set_value (at f R q) es w)) ≡ match_ordering r ((q, w) ∷ shown f (e ∷ es)) ((f e.0, w) ∷ shown f es) ((f e.0, e.1) ∷ put R q w (shown f es))) [
        | Less ↦ λ p found. absurd (subst T (sym (subst IsSome (sym (find-shown f R q es) ∙ find_below R o q (shown f es) (below_less R o q (f e.0) (shown f es) p (first _ _ h))) found)) tt)
        | Equal ↦ λ p found. refl
        | Greater ↦ λ p found. ap (λ rest. (f e.0, e.1) ∷ rest) (shown-set_value q w es (second _ _ h) found)
      ] refl some

  pub set_seen : (q : L) (w : X) (es fs : List (K × X)) → IsStrictlySortedBy (cmp_by f R) (keys_of es) → IsStrictlySortedBy (cmp_by f R) (keys_of fs) → IsSome (lookup (at f R q) es) → fs ≡ set_value (at f R q) es w → from_sorted {R = R} (shown f fs) ≡ insert (from_sorted (shown f es)) q w
  set_seen q w es fs h g some e = put_seen R o (shown f es) q w (shown f fs) (sorted f R es h) (sorted f R fs g) (ap (shown f) e ∙ shown-set_value q w es (sorted f R es h) some)

  find-remove_entry : (k q : L) (es : List (K × X)) → T (is_sorted R (shown f es)) → lookup (at f R q) (remove_entry (at f R k) es) ≡ cond (eq_by_cmp R q k) None (lookup (at f R q) es)
  find-remove_entry k q [] h = nothing (eq_by_cmp R q k)
  find-remove_entry k q (e ∷ es) h =
      elim (R k (f e.0)) as (λ r. R k (f e.0) ≡ r → lookup (at f R q) (cond (is_eq r) es (e ∷ remove_entry (at f R k) es)) ≡ cond (eq_by_cmp R q k) None (lookup (at f R q) (e ∷ es))) [
        | Less ↦ λ p. ap (cond (at f R q e.0) (Some e.1)) (find-remove_entry k q es (second _ _ h)) ∙ swapped (at f R q e.0) (eq_by_cmp R q k) _ _ _ (λ a b. subst (λ r. T (is_eq r)) (o.congr q k (f e.0) (equal _ b) ∙ p) a)
        | Equal ↦ λ p. elim (eq_by_cmp R q k) as (λ b. eq_by_cmp R q k ≡ b → lookup (at f R q) es ≡ cond b None (lookup (at f R q) (e ∷ es))) [
          | true ↦ λ t. sym (find-shown f R q es) ∙ find_below R o q (shown f es) (below_tied R o q (f e.0) (shown f es) (ap (R q) (sym (same k (f e.0) p)) ∙ equal _ (subst T (sym t) tt)) (first _ _ h))
          | false ↦ λ t. ap (λ b. cond b (Some e.1) (lookup (at f R q) es)) (sym (ap (λ x. is_eq (R q x)) (sym (same k (f e.0) p)) ∙ t))
        ] refl
        | Greater ↦ λ p. ap (cond (at f R q e.0) (Some e.1)) (find-remove_entry k q es (second _ _ h)) ∙ swapped (at f R q e.0) (eq_by_cmp R q k) _ _ _ (λ a b. subst (λ r. T (is_eq r)) (o.congr q k (f e.0) (equal _ b) ∙ p) a)
      ] refl

  pub remove_seen : (k : L) (es fs : List (K × X)) → IsStrictlySortedBy (cmp_by f R) (keys_of es) → IsStrictlySortedBy (cmp_by f R) (keys_of fs) → fs ≡ remove_entry (at f R k) es → from_sorted {R = R} (shown f fs) ≡ remove (from_sorted (shown f es)) k
  remove_seen k es fs h g e = same_map o same _ _ (λ q. get_seen q fs g ∙ ap (lookup (at f R q)) e ∙ find-remove_entry k q es (sorted f R es h) ∙ ap (cond (eq_by_cmp R q k) None) (sym (get_seen q es h)) ∙ sym (get-remove o (from_sorted (shown f es)) k q))

  pub len_seen : (es : List (K × X)) → IsStrictlySortedBy (cmp_by f R) (keys_of es) → len (from_sorted {R = R} (shown f es)) ≡ length es
  len_seen es h = len-entries _ ∙ ap length (entries-from_sorted R (shown f es) (sorted f R es h)) ∙ length-shown f R es

  pub entries_seen : (es : List (K × X)) → IsStrictlySortedBy (cmp_by f R) (keys_of es) → entries (from_sorted {R = R} (shown f es)) ≡ shown f es
  entries_seen es h = entries-from_sorted R (shown f es) (sorted f R es h)

-- the map of no entries
pub seen_empty : {L X : Type 0} (R : L → L → Ordering) → from_sorted {X = X} {R = R} [] ≡ empty
seen_empty {X = X} R = empty_of_len (from_sorted {X = X} {R = R} []) (len-entries _ ∙ ap length (entries-from_sorted R [] tt))

pub entries-empty : {L X : Type 0} (R : L → L → Ordering) → entries (empty {X = X} {R = R}) ≡ []
entries-empty R = ap entries (sym (seen_empty R)) ∙ entries-from_sorted R [] tt

-- what an option chooses
module _ {A X : Type 0} (a b : A) where
  pub if_there : (o : Option X) (x : X) → Some x ≡ o → a ≡ (if is_some o then a else b)
  if_there o x e = subst (λ o. a ≡ (if is_some o then a else b)) e refl

  pub if_none : (o : Option X) → None ≡ o → b ≡ (if is_some o then a else b)
  if_none o e = subst (λ o. b ≡ (if is_some o then a else b)) e refl

module _ {X : Type 0} (d : X) where
  pub or_there : (o : Option X) (x : X) → Some x ≡ o → x ≡ unwrap_or o d
  or_there o x e = subst (λ o. x ≡ unwrap_or o d) e refl

  pub or_none : (o : Option X) → None ≡ o → d ≡ unwrap_or o d
  or_none o e = subst (λ o. d ≡ unwrap_or o d) e refl

-- the last of a list
module _ {E M L : Type 0} (h : E → M) (f : M → L) where
  pub last_of : (es : List E) (e : E) (o : Option L) → slice_get es (length es - 1) ≡ Some e → last_or o (map f (map h es)) ≡ Some (f (h e))
  last_of [] e o is = absurd (subst T (ap is_some (sym is)) tt)
  last_of (x ∷ []) e o is = ap (option_map (λ e. f (h e))) is
  last_of (x ∷ y ∷ ys) e o is =
      let step : suc (length (y ∷ ys) - 1) ≡ length (x ∷ y ∷ ys) - 1 = omega arith in
      last_of (y ∷ ys) e (Some (f (h x))) (ap (slice_get (x ∷ y ∷ ys)) step ∙ is)

  pub last_of_none : (es : List E) → (0 < length es → ⊥) → last_or None (map f (map h es)) ≡ None
  last_of_none [] is = refl
  last_of_none (x ∷ es) is = absurd (is (omega arith))

-- the keys of a tree
pub keys-shown : {K L X : Type 0} (f : K → L) (es : List (K × X)) → map (λ (e : L × X). e.0) (shown f es) ≡ map (λ e. f e.0) es
keys-shown f [] = refl
keys-shown f (e ∷ es) = ap (λ ks. f e.0 ∷ ks) (keys-shown f es)

pub append_none : {X : Type 0} (xs : List X) → xs ≡ xs ++ []
append_none [] = refl
append_none (x ∷ xs) = ap (λ ys. x ∷ ys) (append_none xs)

shown_same : {L X : Type 0} (es : List (L × X)) → shown (λ k. k) es ≡ es
shown_same [] = refl
shown_same (e ∷ es) = ap (λ rest. e ∷ rest) (shown_same es)

pub same_shown : {L X : Type 0} (es : List (L × X)) → shown (λ k. k) es ≡ es
same_shown = shown_same

pub joined_at : {X : Type 0} (xs : List X) (x : X) (ys : List X) → (xs ++ x ∷ []) ++ ys ≡ xs ++ x ∷ ys
joined_at [] x ys = refl
joined_at (z ∷ xs) x ys = ap (λ rest. z ∷ rest) (joined_at xs x ys)

-- a copy that is made entry by entry
module _ {L X : Type 0} (R : L → L → Ordering) (o : IsTotalOrder R) where
  mid_below : (x : L) (xs : List (L × X)) (k : L) (v : X) (ys : List (L × X)) → T (below_all R x (xs ++ (k, v) ∷ ys)) → R x k ≡ Less
  mid_below x [] k v ys h = less _ (first _ _ h)
  mid_below x (e ∷ xs) k v ys h = mid_below x xs k v ys (second _ _ h)

  put_last : (xs : List (L × X)) (k : L) (v : X) (ys : List (L × X)) → T (is_sorted R (xs ++ (k, v) ∷ ys)) → put R k v xs ≡ xs ++ (k, v) ∷ []
  put_last [] k v ys h = refl
  put_last (x ∷ xs) k v ys h =
      ap (λ r. match_ordering r ((k, v) ∷ x ∷ xs) ((x.0, v) ∷ xs) (x ∷ put R k v xs)) (o.antisymm k x.0 ∙ ap ordering_reverse (mid_below x.0 xs k v ys (first _ _ h)))
      ∙ ap (λ rest. x ∷ rest) (put_last xs k v ys (second _ _ h))

  -- each entry is what its key has
  find_mid : (xs : List (L × X)) (k : L) (v : X) (ys : List (L × X)) → T (is_sorted R (xs ++ (k, v) ∷ ys)) → find R k (xs ++ (k, v) ∷ ys) ≡ Some v
  find_mid [] k v ys h = ap (λ r. cond (is_eq r) (Some v) (find R k ys)) (tied_itself o k)
  find_mid (x ∷ xs) k v ys h =
      ap (λ r. cond (is_eq r) (Some x.1) (find R k (xs ++ (k, v) ∷ ys))) (o.antisymm k x.0 ∙ ap ordering_reverse (mid_below x.0 xs k v ys (first _ _ h)))
      ∙ find_mid xs k v ys (second _ _ h)

  found_from : (m : FinMap R X) (xs es : List (L × X)) → xs ++ es ≡ entries m → AllByRecursion (λ e. get m e.0 ≡ Some e.1) es
  found_from m xs [] e = tt
  found_from m xs (x ∷ es) e = (
    get-entries m x.0 ∙ ap (find R x.0) (sym e) ∙ find_mid xs x.0 x.1 es (subst (λ es. T (is_sorted R es)) (sym e) (entries_sorted m)),
    found_from m (xs ++ x ∷ []) es (joined_at xs x es ∙ e),
  )

  pub found_all : {K : Type 0} (f : K → L) (m : FinMap R X) (es : List (K × X)) → shown f es ≡ entries m → AllByRecursion (λ e. get m (f e.0) ≡ Some e.1) es
  found_all {K} f m es e = unshown es (found_from m [] (shown f es) e)
    where
      unshown : (es : List (K × X)) → AllByRecursion (λ e. get m e.0 ≡ Some e.1) (shown f es) → AllByRecursion (λ e. get m (f e.0) ≡ Some e.1) es
      unshown [] h = tt
      unshown (e ∷ es) h = (h.0, unshown es h.1)

  pub copied_more : (m : FinMap R X) (k : L) (v : X) (rest all : List (L × X)) → T (is_sorted R all) → entries m ++ (k, v) ∷ rest ≡ all → entries (insert m k v) ++ rest ≡ all
  copied_more m k v rest all h e =
      ap (λ es. es ++ rest) (entries-insert o m k v ∙ put_last (entries m) k v rest (subst (λ es. T (is_sorted R es)) (sym e) h))
      ∙ joined_at (entries m) (k, v) rest ∙ e

  pub copied_all : (m n : FinMap R X) → entries m ++ [] ≡ entries n → m ≡ n
  copied_all m n e = same_entries_map m n (append_none (entries m) ∙ e)
