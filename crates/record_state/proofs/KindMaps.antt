-- Kinds as a map, and what they weigh.
use lib.Dec.{T}
use Rattle.std.proofs.Common.{◌≡◌, ◌<◌, ℕ, ◌+◌, ◌*◌, ◌≤◌, ◌^◌, true, false, cond, List, [], ◌∷◌, refl, ap, sym, subst, ◌∙◌, arith, min}
use Rattle.std.specs.Prelude.{Option, Some, None, is_some, sum_by}
use Rattle.std.specs.Option.{option_map_or}
use Rattle.std.specs.Ordering.{nat_cmp, eq_by_cmp}
use Rattle.std.specs.Cmp.{nat_cmp_total}
use Rattle.std.proofs.lemmas.List.Sums.{sum_by-cons}
use Rattle.std.specs.FinMap.{nat_cmp-IsAntisymmetric, entries, empty, get, insert, remove, len, entries_sorted, entries-insert, get-entries, get-empty, get-insert, get-remove, len-entries, put}
use Rattle.storage_model.specs.declared.limits.TheConstants.{KIND_WEIGHT}
use Rattle.storage_model.specs.Records.{KindEntry, Kinds, kind_weight, slot_weight, weight}
use Rattle.record_state.specs.Light.{counted, counted_kind, slots_sum, kinds_sum, AreKindIds}
use Rattle.ordered_tables.proofs.Trees.{sum-put, entries-empty}
use Rattle.ordered_tables.proofs.Finite.{equal, sum-taken}
use Rattle.record_state.proofs.SlotMaps.{sum_by-le}

capped_step : (a x y s : ℕ) → min (a + min x 131073 + s) 131073 ≡ y → min (a + x + s) 131073 ≡ y
capped_step a x y s e = omega arith

-- a sum of parts that are counted up to a bound, is counted right up to that bound
pub sum-counted : {X : Type 0} (g : X → ℕ) (a : ℕ) (xs : List X) → counted (a + sum_by (λ x. counted (g x)) xs) ≡ counted (a + sum_by g xs)
sum-counted g a [] = refl
sum-counted g a (x ∷ xs) =
    let more : a + sum_by (λ x. counted (g x)) (x ∷ xs) ≡ (a + min (g x) 131073) + sum_by (λ x. counted (g x)) xs = rw (sum_by-cons (λ x. counted (g x)) x xs) (omega arith) in
    let all : (a + g x) + sum_by g xs ≡ a + sum_by g (x ∷ xs) = rw (sum_by-cons g x xs) (omega arith) in
    ap counted more ∙ sum-counted g (a + min (g x) 131073) xs ∙ sym (capped_step a (g x) _ (sum_by g xs) refl) ∙ ap counted all

pub kind_counted : (k : KindEntry) → counted (KIND_WEIGHT + slots_sum k.slots) ≡ counted (kind_weight k)
unfolding slots_sum kind_weight
kind_counted k = sum-counted (λ s. slot_weight s.0 s.1) KIND_WEIGHT (entries k.slots)

pub kinds_counted : (m : Kinds) → counted (kinds_sum m) ≡ counted (weight m)
unfolding kinds_sum weight
kinds_counted m =
    let before : sum_by counted_kind (entries m) ≡ 0 + sum_by counted_kind (entries m) = omega arith in
    let after : 0 + sum_by (λ k. kind_weight k.1) (entries m) ≡ sum_by (λ k. kind_weight k.1) (entries m) = omega arith in
    ap counted before ∙ sum-counted (λ k. kind_weight k.1) 0 (entries m) ∙ ap counted after

pub kinds_sum-insert : (m : Kinds) (id : ℕ) (k : KindEntry)
    → kinds_sum (insert m id k) + option_map_or (λ k. counted (kind_weight k)) (get m id) 0 ≡ kinds_sum m + counted (kind_weight k)
unfolding kinds_sum
kinds_sum-insert m id k =
    ap (λ es. sum_by counted_kind es + option_map_or (λ k. counted (kind_weight k)) (get m id) 0) (entries-insert nat_cmp_total m id k)
    ∙ ap (λ o. sum_by counted_kind (put nat_cmp id k (entries m)) + option_map_or (λ k. counted (kind_weight k)) o 0) (get-entries m id)
    ∙ sum-put nat_cmp nat_cmp_total nat_cmp-IsAntisymmetric counted_kind id k (entries m) (entries_sorted m)

pub kinds_sum-remove : (m : Kinds) (id : ℕ) → kinds_sum (remove m id) + option_map_or (λ k. counted (kind_weight k)) (get m id) 0 ≡ kinds_sum m
kinds_sum-remove m id = sum-taken nat_cmp_total nat_cmp-IsAntisymmetric kinds_sum (λ id k. counted (kind_weight k)) kinds_sum-insert m id

pub kinds_sum-le : (m : Kinds) → kinds_sum m ≤ 131073 * len m
unfolding kinds_sum
kinds_sum-le m = subst (λ n. sum_by counted_kind (entries m) ≤ 131073 * n) (sym (len-entries m)) (sum_by-le counted_kind 131073 (λ k. omega arith) (entries m))

pub kinds_sum-empty : kinds_sum empty ≡ 0
unfolding kinds_sum
kinds_sum-empty = ap (sum_by counted_kind) (entries-empty nat_cmp)

-- the weight after a kind was put, and after it was taken out
pub put_kind_weight : (m : Kinds) (id : ℕ) (k : KindEntry) (before : Option KindEntry) (sum new old : ℕ)
    → before ≡ get m id → sum ≡ kinds_sum m → new ≡ counted (kind_weight k) → old ≡ option_map_or (λ k. counted (kind_weight k)) before 0
    → kinds_sum (insert m id k) + old ≡ sum + new
put_kind_weight m id k before sum new old is sums news olds =
    ap (λ n. kinds_sum (insert m id k) + n) (olds ∙ ap (λ o. option_map_or (λ k. counted (kind_weight k)) o 0) is)
    ∙ kinds_sum-insert m id k ∙ ap (λ n. n + counted (kind_weight k)) (sym sums) ∙ ap (λ n. sum + n) (sym news)

pub taken_kind_weight : (m : Kinds) (id sum old : ℕ) → sum ≡ kinds_sum m → old ≡ option_map_or (λ k. counted (kind_weight k)) (get m id) 0 → kinds_sum (remove m id) + old ≡ sum
taken_kind_weight m id sum old sums olds = ap (λ n. kinds_sum (remove m id) + n) olds ∙ kinds_sum-remove m id ∙ sym sums

pub turned : (a w s : ℕ) → a ≡ min 131073 (KIND_WEIGHT + w) → w ≡ s → a ≡ counted (KIND_WEIGHT + s)
turned a w s e is = rw (e, is) (omega arith)

pub weight-empty : weight empty ≡ 0
unfolding weight
weight-empty = ap (sum_by (λ k. kind_weight k.1)) (entries-empty nat_cmp)

-- a sum that is counted right is the weight, where that isn't too much
pub weighed : (a b : ℕ) → min a 131073 ≡ min b 131073 → b ≤ 131072 → a ≡ b
weighed a b e le = omega arith

-- the keys of kinds stay Kind-IDs
pub ids-empty : AreKindIds empty
unfolding AreKindIds
ids-empty id some = absurd (subst T (sym (ap is_some (sym (get-empty nat_cmp id)) ∙ some)) tt)

pub ids-insert : (m : Kinds) (id : ℕ) (k : KindEntry) → AreKindIds m → id < 2 ^ 32 → AreKindIds (insert m id k)
unfolding AreKindIds
ids-insert m id k ids small q some =
    elim (eq_by_cmp nat_cmp q id) as (λ b. eq_by_cmp nat_cmp q id ≡ b → is_some (cond b (Some k) (get m q)) ≡ true → q < 2 ^ 32) [
      | true ↦ λ t e. subst (λ n. n < 2 ^ 32) (sym (nat_cmp-IsAntisymmetric q id (equal _ (subst T (sym t) tt)))) small
      | false ↦ λ t e. ids q e
    ] refl (ap is_some (sym (get-insert nat_cmp_total m id k q)) ∙ some)

pub ids-remove : (m : Kinds) (id : ℕ) → AreKindIds m → AreKindIds (remove m id)
unfolding AreKindIds
ids-remove m id ids q some =
    elim (eq_by_cmp nat_cmp q id) as (λ b. is_some (cond b None (get m q)) ≡ true → q < 2 ^ 32) [
      | true ↦ λ e. absurd (subst T (sym e) tt)
      | false ↦ λ e. ids q e
    ] (ap is_some (sym (get-remove nat_cmp_total m id q)) ∙ some)

pub id_small : (m : Kinds) (id : ℕ) (k : KindEntry) → AreKindIds m → get m id ≡ Some k → id < 2 ^ 32
unfolding AreKindIds
id_small m id k ids is = ids id (ap is_some is)
