-- Slots as a map: what they weigh, and when the first of them expires.
use Rattle.std.proofs.Common.{◌≡◌, ◌<◌, ℕ, ◌+◌, ◌*◌, ◌≤◌, ◌-◌, ◌^◌, Bool, true, false, cond, List, [], ◌∷◌, ap, sym, subst, ◌∙◌, length, arith, Vec, Global}
use Rattle.std.specs.Prelude.{Option, Some, None, is_some, if◌then◌else◌, sum_by, min, unwrap_or}
use Rattle.std.specs.Option.{option_map_or}
use Rattle.std.specs.Ordering.{nat_cmp, is_eq, eq_by_cmp}
use Rattle.std.specs.List.{AllByRecursion}
use Rattle.std.specs.Cmp.Lexicographic.{slice_cmp, nat_list_cmp_total}
use Rattle.std.proofs.lemmas.List.Sums.{sum_by-cons}
use Rattle.std.specs.FinMap.{entries, empty, get, insert, remove, len, entries_sorted, entries-insert, get-entries, get-insert, get-remove, get-empty, len-entries, find, put}
use Rattle.storage_model.specs.Records.{SlotEntry, Slots, slot_weight, empty_slot}
use Rattle.ordered_tables.specs.Seen.{shown}
use Rattle.record_state.specs.Light.{counted, counted_slot, slots_sum, expiry_of, IsNoSooner}
use Rattle.ordered_tables.proofs.Trees.{sum-put, entries-empty}
use Rattle.ordered_tables.proofs.KeyMaps.{key_cmp_same}
use Rattle.ordered_tables.proofs.Finite.{sum-taken}
use Rattle.storage_model.specs.declared.limits.TheConstants.{SLOT_WEIGHT}

pub sum_by-le : {X : Type 0} (g : X → ℕ) (most : ℕ) → ((x : X) → g x ≤ most) → (xs : List X) → sum_by g xs ≤ most * length xs
sum_by-le g most bound [] = omega arith
sum_by-le g most bound (x ∷ xs) = rw (sum_by-cons g x xs) (grind (arith, bound x, sum_by-le g most bound xs))

pub slots_sum-insert : (m : Slots) (key : List ℕ) (s : SlotEntry)
    → slots_sum (insert m key s) + option_map_or (λ x. counted_slot (key, x)) (get m key) 0 ≡ slots_sum m + counted_slot (key, s)
unfolding slots_sum
slots_sum-insert m key s =
    ap (λ es. sum_by counted_slot es + option_map_or (λ x. counted_slot (key, x)) (get m key) 0) (entries-insert nat_list_cmp_total m key s)
    ∙ ap (λ o. sum_by counted_slot (put (slice_cmp nat_cmp) key s (entries m)) + option_map_or (λ x. counted_slot (key, x)) o 0) (get-entries m key)
    ∙ sum-put (slice_cmp nat_cmp) nat_list_cmp_total key_cmp_same counted_slot key s (entries m) (entries_sorted m)

pub slots_sum-le : (m : Slots) → slots_sum m ≤ 131073 * len m
unfolding slots_sum
slots_sum-le m = subst (λ n. sum_by counted_slot (entries m) ≤ 131073 * n) (sym (len-entries m)) (sum_by-le counted_slot 131073 (λ s. omega arith) (entries m))

sooner_at : (n : ℕ) (b : Bool) (s : SlotEntry) (o : Option SlotEntry) → n ≤ expiry_of s.held → n ≤ expiry_of (unwrap_or o empty_slot).held → n ≤ expiry_of (unwrap_or (cond b (Some s) o) empty_slot).held
sooner_at n true s o new old = new
sooner_at n false s o new old = old

later : (n k e : ℕ) → n ≤ k → k ≤ e → n ≤ e
later n k e p q = omega arith

pub sooner-insert : (n k : ℕ) (m : Slots) (key : List ℕ) (s : SlotEntry) → IsNoSooner k m → n ≤ k → n ≤ expiry_of s.held → IsNoSooner n (insert m key s)
unfolding IsNoSooner
sooner-insert n k m key s old le new = (later n k _ le old.0, λ q. subst (λ o. n ≤ expiry_of (unwrap_or o empty_slot).held) (sym (get-insert nat_list_cmp_total m key s q)) (sooner_at n (eq_by_cmp (slice_cmp nat_cmp) q key) s (get m q) new (later n k _ le (old.1 q))))

gone_at : (n : ℕ) (b : Bool) (o : Option SlotEntry) → n ≤ 2 ^ 64 → n ≤ expiry_of (unwrap_or o empty_slot).held → n ≤ expiry_of (unwrap_or (cond b None o) empty_slot).held
gone_at n true o small old = small
gone_at n false o small old = old

pub sooner-remove : (n : ℕ) (m : Slots) (key : List ℕ) → IsNoSooner n m → IsNoSooner n (remove m key)
unfolding IsNoSooner
sooner-remove n m key old = (old.0, λ q. subst (λ o. n ≤ expiry_of (unwrap_or o empty_slot).held) (sym (get-remove nat_list_cmp_total m key q)) (gone_at n (eq_by_cmp (slice_cmp nat_cmp) q key) (get m q) old.0 (old.1 q)))

pub sooner-empty : (n : ℕ) → n ≤ 2 ^ 64 → IsNoSooner n empty
unfolding IsNoSooner
sooner-empty n small = (small, λ q. subst (λ o. n ≤ expiry_of (unwrap_or o empty_slot).held) (sym (get-empty (slice_cmp nat_cmp) q)) small)

-- the weight after a slot was put
pub put_weight : (m : Slots) (key : List ℕ) (s : SlotEntry) (before : Option SlotEntry) (len sum new old : ℕ)
    → len ≡ length key → before ≡ get m key → sum ≡ slots_sum m
    → new ≡ counted (SLOT_WEIGHT + len + option_map_or (λ h. h.size) s.held 0)
    → old ≡ option_map_or (λ x. counted (SLOT_WEIGHT + len + option_map_or (λ h. h.size) x.held 0)) before 0
    → slots_sum (insert m key s) + old ≡ sum + new
unfolding slot_weight
put_weight m key s before len sum new old lens is sums news olds =
    ap (λ n. slots_sum (insert m key s) + n) (olds ∙ ap (λ l. option_map_or (λ x. counted (SLOT_WEIGHT + l + option_map_or (λ h. h.size) x.held 0)) before 0) lens ∙ ap (λ o. option_map_or (λ x. counted_slot (key, x)) o 0) is)
    ∙ slots_sum-insert m key s ∙ ap (λ n. n + counted_slot (key, s)) (sym sums)
    ∙ ap (λ n. sum + n) (sym (news ∙ ap (λ l. counted (SLOT_WEIGHT + l + option_map_or (λ h. h.size) s.held 0)) lens))

-- the weight after a slot was taken out
pub taken_weight : (m : Slots) (key : List ℕ) (before : Option SlotEntry) (len sum old : ℕ)
    → len ≡ length key → before ≡ get m key → sum ≡ slots_sum m
    → old ≡ option_map_or (λ x. counted (SLOT_WEIGHT + len + option_map_or (λ h. h.size) x.held 0)) before 0
    → slots_sum (remove m key) + old ≡ sum
unfolding slot_weight
taken_weight m key before len sum old lens is sums olds =
    ap (λ n. slots_sum (remove m key) + n) (olds ∙ ap (λ l. option_map_or (λ x. counted (SLOT_WEIGHT + l + option_map_or (λ h. h.size) x.held 0)) before 0) lens ∙ ap (λ o. option_map_or (λ x. counted_slot (key, x)) o 0) is)
    ∙ sum-taken nat_list_cmp_total key_cmp_same slots_sum (λ k x. counted_slot (k, x)) slots_sum-insert m key ∙ sym sums

pub sum_small : (n len weight : ℕ) → n ≤ 131073 * len → len < 2 ^ 63 → weight ≡ n → weight < 2 ^ 82
sum_small n len weight le small is = omega arith

pub taken : (sum after new old : ℕ) → after + old ≡ sum + new → old ≤ sum + new
taken sum after new old e = omega arith

pub left : (sum after old : ℕ) → after + old ≡ sum → old ≤ sum
left sum after old e = omega arith

pub less : (sum after old : ℕ) → after + old ≡ sum → sum - old ≡ after
less sum after old e = omega arith

pub rest : (sum after new old : ℕ) → after + old ≡ sum + new → sum + new - old ≡ after
rest sum after new old e = omega arith

pub all_of : (n sum new : ℕ) → n + 0 ≡ sum + new → sum + new ≡ n
all_of n sum new e = omega arith

pub slots_sum-empty : slots_sum empty ≡ 0
unfolding slots_sum
slots_sum-empty = ap (sum_by counted_slot) (entries-empty (slice_cmp nat_cmp))

-- the clock before which nothing expires, after a slot was put
pub sooner_min : (k e : ℕ) (m : Slots) (key : List ℕ) (s : SlotEntry) → IsNoSooner k m → e ≤ expiry_of s.held → IsNoSooner (min k e) (insert m key s)
sooner_min k e m key s old new = sooner-insert (min k e) k m key s old (omega arith) (later (min k e) e _ (omega arith) new)

pub sooner_there : (k e n : ℕ) (o : Option SlotEntry) (m next : Slots) (key : List ℕ) (s : SlotEntry) → true ≡ is_some o → next ≡ (if is_some o then insert m key s else m) → n ≡ min k e → IsNoSooner k m → e ≤ expiry_of s.held → IsNoSooner n next
sooner_there k e n o m next key s there is ns old new =
    rw (ns, is, sym there) (sooner_min k e m key s old new)

-- a clock that is no later than the expiry of each entry
none_sooner : (n : ℕ) (q : List ℕ) (es : List (List ℕ × SlotEntry)) → n ≤ 2 ^ 64 → AllByRecursion (λ e. n ≤ expiry_of e.1.held) es → n ≤ expiry_of (unwrap_or (find (slice_cmp nat_cmp) q es) empty_slot).held
none_sooner n q [] small all = small
none_sooner n q (e ∷ es) small all =
    elim (is_eq (slice_cmp nat_cmp q e.0)) as (λ b. n ≤ expiry_of (unwrap_or (cond b (Some e.1) (find (slice_cmp nat_cmp) q es)) empty_slot).held) [
      | true ↦ all.0
      | false ↦ none_sooner n q es small all.1
    ]

as_shown : (n : ℕ) (es : List (Vec ℕ Global × SlotEntry)) → AllByRecursion (λ e. n ≤ expiry_of e.1.held) es → AllByRecursion (λ (e : List ℕ × SlotEntry). n ≤ expiry_of e.1.held) (shown (λ (k : Vec ℕ Global). k.items) es)
as_shown n [] all = tt
as_shown n (e ∷ es) all = (all.0, as_shown n es all.1)

pub sooner-all : (n : ℕ) (m : Slots) (es : List (Vec ℕ Global × SlotEntry)) → entries m ≡ shown (λ k. k.items) es → n ≤ 2 ^ 64 → AllByRecursion (λ e. n ≤ expiry_of e.1.held) es → IsNoSooner n m
unfolding IsNoSooner
sooner-all n m es is small all =
    (small, λ q. subst (λ o. n ≤ expiry_of (unwrap_or o empty_slot).held) (sym (get-entries m q ∙ ap (find (slice_cmp nat_cmp) q) is)) (none_sooner n q (shown (λ k. k.items) es) small (as_shown n es all)))
