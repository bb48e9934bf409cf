-- Maps whose values are changed.
use Rattle.std.proofs.Common.{◌≡◌, true, false, T, cond, List, [], ◌∷◌, map, ◌&&◌, Some, option_map, length, suc, refl, sym, ap, ap₂, ◌∙◌, subst, Ordering, Less, Equal, Greater}
use Rattle.std.specs.Ordering.{eq_by_cmp, is_lt}
use Rattle.std.specs.Cmp.{IsTotalOrder}
use Rattle.std.specs.FinMap.{FinMap, get, entries, keys, entries_sorted, get-entries, entries-from_sorted, get-from_sorted, empty, empty_of_len, len-entries, len-empty, insert, entries-insert}
use Rattle.std.specs.FinMap as map
use Rattle.std.specs.FinMap.Entries as entries_of
use Rattle.storage_model.specs.Records.{map_values}

-- entries with their values changed
abbrev pub changed_entries : {K X Y : Type 0} → (X → Y) → List (K × X) → List (K × Y)
changed_entries change es = map (λ e. (e.0, change e.1)) es

-- their keys
keys-changed : {K X Y : Type 0} (change : X → Y) (es : List (K × X)) → map (λ e. e.0) (changed_entries change es) ≡ map (λ e. e.0) es
keys-changed change [] = refl
keys-changed change (e ∷ es) = ap (λ ks. e.0 ∷ ks) (keys-changed change es)

module _ {K X Y : Type 0} (R : K → K → Ordering) (change : X → Y) where
  below-changed : (k : K) (es : List (K × X)) → entries_of.below_all R k (changed_entries change es) ≡ entries_of.below_all R k es
  below-changed k [] = refl
  below-changed k (e ∷ es) = ap (λ b. is_lt (R k e.0) && b) (below-changed k es)

  -- their keys rise where they rose
  sorted-changed : (es : List (K × X)) → map.is_sorted R (changed_entries change es) ≡ map.is_sorted R es
  sorted-changed [] = refl
  sorted-changed (e ∷ es) = ap₂ (λ a b. a && b) (below-changed e.0 es) (sorted-changed es)

  -- what stands at a key is changed
  find-changed : (q : K) (es : List (K × X)) → map.find R q (changed_entries change es) ≡ option_map change (map.find R q es)
  find-changed q [] = refl
  find-changed q (e ∷ es) =
      elim (eq_by_cmp R q e.0) as (λ b. cond b (Some (change e.1)) (map.find R q (changed_entries change es)) ≡ option_map change (cond b (Some e.1) (map.find R q es))) [
        | true ↦ refl
        | false ↦ find-changed q es
      ]

  still_sorted : (m : FinMap R X) → T (map.is_sorted R (changed_entries change (entries m)))
  still_sorted m = subst T (sym (sorted-changed (entries m))) (entries_sorted m)

  pub entries-map_values : (m : FinMap R X) → entries (map_values change m) ≡ changed_entries change (entries m)
  unfolding map_values
  entries-map_values m = entries-from_sorted R (changed_entries change (entries m)) (still_sorted m)

  pub get-map_values : (m : FinMap R X) (q : K) → get (map_values change m) q ≡ option_map change (get m q)
  unfolding map_values
  get-map_values m q =
      get-from_sorted R (changed_entries change (entries m)) q (still_sorted m)
      ∙ find-changed q (entries m) ∙ ap (option_map change) (sym (get-entries m q))

  pub keys-map_values : (m : FinMap R X) → keys (map_values change m) ≡ keys m
  keys-map_values m = ap (map (λ e. e.0)) (entries-map_values m) ∙ keys-changed change (entries m)

  -- nothing stays nothing
  length-changed : (es : List (K × X)) → length (changed_entries change es) ≡ length es
  length-changed [] = refl
  length-changed (e ∷ es) = ap (λ n. suc n) (length-changed es)

  pub map_values-empty : map_values change (empty {X = X} {R = R}) ≡ empty
  map_values-empty = empty_of_len _ (len-entries _ ∙ ap length (entries-map_values empty) ∙ length-changed (entries empty) ∙ sym (len-entries (empty {X = X} {R = R})) ∙ len-empty R X)

-- keys with one more, in its place
abbrev pub with_key : {K : Type 0} → (K → K → Ordering) → K → List K → List K
with_key R k [] = k ∷ []
with_key R k (q ∷ qs) = entries_of.by_order (R k q) (k ∷ q ∷ qs) (q ∷ qs) (q ∷ with_key R k qs)

keys-put : {K X : Type 0} (R : K → K → Ordering) (k : K) (v : X) (es : List (K × X)) → map (λ e. e.0) (map.put R k v es) ≡ with_key R k (map (λ e. e.0) es)
keys-put R k v [] = refl
keys-put R k v (e ∷ es) =
    elim (R k e.0) as (λ o. map (λ e. e.0) (entries_of.by_order o ((k, v) ∷ e ∷ es) ((e.0, v) ∷ es) (e ∷ map.put R k v es)) ≡ entries_of.by_order o (k ∷ e.0 ∷ map (λ e. e.0) es) (e.0 ∷ map (λ e. e.0) es) (e.0 ∷ with_key R k (map (λ e. e.0) es))) [
      | Less ↦ refl
      | Equal ↦ refl
      | Greater ↦ ap (λ qs. e.0 ∷ qs) (keys-put R k v es)
    ]

-- the keys of a map with one more
pub keys-insert : {K X : Type 0} {R : K → K → Ordering} (o : IsTotalOrder R) (m : FinMap R X) (k : K) (v : X) → keys (insert m k v) ≡ with_key R k (keys m)
keys-insert {R = R} o m k v = ap (map (λ e. e.0)) (entries-insert o m k v) ∙ keys-put R k v (entries m)
