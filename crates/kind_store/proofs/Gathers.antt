-- Gathering the values of keys, one after the other.
use Rattle.std.proofs.Common.{◌≡◌, ℕ, suc, ◌+◌, ◌-◌, ◌<◌, ◌≤◌, ◌^◌, min, Bool, true, false, cond, List, [], ◌∷◌, ◌++◌, map, filter, fold, take, is_some, nat_lt, refl, sym, ap, ◌∙◌, arith, get_or}
use Rattle.std.proofs.lemmas.Bool.Decides.{nat_tests}
use Rattle.std.proofs.lemmas.List.Sums.{fold-append}
use Rattle.std.specs.List.{flat_map, range_with_len}
use Rattle.std.specs.FinMap.{entries}
use Rattle.data_models.specs.declared.stored_data.SlotKey.{SlotKey}
use Rattle.data_models.specs.declared.stored_data.SlotKey.TheVariants as keys
use Rattle.data_models.specs.declared.stored_data.StoredData.{StoredData}
use Rattle.storage_model.specs.Records.{SlotEntry, Slots, next_index, unexpired}
use Rattle.storage_model.specs.Fetches.{indices, live_names, slots_asked}
use Rattle.kind_store.specs.declared.gathering.Gathering.{Gathering}
use Rattle.kind_store.specs.declared.gathering.TheConstants.{ENOUGH}
use Rattle.kind_store.specs.Gathered.{with_key, with_keys, with_range, given_at, size_at}

-- one key, and none
pub whole : (now : ℕ) (slots : Slots) (g : Gathering) (key : SlotKey) → with_keys now slots g (key ∷ []) ≡ with_key now slots g key
unfolding with_keys
whole now slots g key = refl

pub none : (now : ℕ) (slots : Slots) (g : Gathering) → with_keys now slots g [] ≡ g
unfolding with_keys
none now slots g = refl

pub keys_append : (now : ℕ) (slots : Slots) (g : Gathering) (xs ys : List SlotKey) → with_keys now slots g (xs ++ ys) ≡ with_keys now slots (with_keys now slots g xs) ys
unfolding with_keys
keys_append now slots g xs ys = fold-append (with_key now slots) g xs ys

one_left : (i n : ℕ) → i < n → suc (n - (i + 1)) ≡ n - i
one_left i n l = omega (arith, l)

none_left : (i n : ℕ) → n ≤ i → n - i ≡ 0
none_left i n l = omega (arith, l)

-- the next index of a range, and none where it is at its end
pub index_more : (now : ℕ) (slots : Slots) (g : Gathering) (i n : ℕ) → i < n → with_keys now slots (with_key now slots g (keys.Index i)) (map keys.Index (range_with_len (i + 1) (n - (i + 1)))) ≡ with_keys now slots g (map keys.Index (range_with_len i (n - i)))
unfolding with_keys
index_more now slots g i n l = ap (λ m. fold (with_key now slots) g (map keys.Index (range_with_len i m))) (one_left i n l)

pub no_index : (now : ℕ) (slots : Slots) (g : Gathering) (i n : ℕ) → n ≤ i → with_keys now slots g (map keys.Index (range_with_len i (n - i))) ≡ g
unfolding with_keys
no_index now slots g i n l = ap (λ m. fold (with_key now slots) g (map keys.Index (range_with_len i m))) (none_left i n l)

-- ranges, one after the other
pub ranges_of : (now : ℕ) (slots : Slots) (g : Gathering) (ranges : List (ℕ × ℕ)) → fold (with_range now slots) g ranges ≡ with_keys now slots g (flat_map (λ range. map keys.Index (indices slots range)) ranges)
unfolding with_range
ranges_of now slots g [] = sym (none now slots g)
ranges_of now slots g (range ∷ ranges) =
    ranges_of now slots (with_range now slots g range) ranges
    ∙ sym (keys_append now slots g (map keys.Index (indices slots range)) (flat_map (λ r. map keys.Index (indices slots r)) ranges))
