-- Kinds and slots that are written down, and put together again.
use Rattle.std.proofs.Common.{◌≡◌, ℕ, ◌<◌, true, List, [], ◌∷◌, ◌++◌, refl, ap, sym, subst, ◌∙◌, arith}
use lib.Dec.{T}
use Rattle.std.specs.Prelude.{Some, None, is_some, map, fold}
use Rattle.std.specs.List.{AllByRecursion}
use Rattle.std.specs.List.Sorted.{IsStrictlySortedBy}
use Rattle.std.specs.Map.{keys_of}
use Rattle.std.specs.declared.cmp.Ordering.TheVariants.{Less}
use Rattle.std.specs.Ordering.{nat_cmp, match_ordering, ordering_reverse}
use Rattle.std.specs.Cmp.{nat_cmp_total, nat_cmp_is}
use Rattle.std.specs.Cmp.Lexicographic.{slice_cmp, nat_list_cmp_total}
use Rattle.std.proofs.lemmas.List.{map-append}
use Rattle.std.specs.FinMap.{entries, get, insert, empty, put, is_sorted, entries-from_sorted, entries-insert, same_entries_map}
use Rattle.storage_model.specs.declared.record.Slot.{Slot}
use Rattle.storage_model.specs.declared.record.KindRecord.{KindRecord}
use Rattle.storage_model.specs.Records.{SlotEntry, Slots, KindEntry, Kinds}
use Rattle.record_state.specs.Written.{slot_record, slot_records, kind_record, kind_records, slot_entry, slots_written, kind_written, HaveRisingKeys, Follows}
use Rattle.ordered_tables.proofs.Trees.{sorted, same_shown, append_none, entries-empty, copied_more, found_all}

-- slots that are put one after the other, by rising key
abbrev pub with_listed : Slots → Slot → Slots
with_listed slots s = insert slots s.key (slot_entry s).1

entries-listed : (slots : Slots) (list : List Slot) (all : List (List ℕ × SlotEntry)) → T (is_sorted (slice_cmp nat_cmp) all) → entries slots ++ map slot_entry list ≡ all → entries (fold with_listed slots list) ≡ all
entries-listed slots [] all h e = append_none (entries slots) ∙ e
entries-listed slots (s ∷ list) all h e =
    entries-listed (with_listed slots s) list all h
    (copied_more (slice_cmp nat_cmp) nat_list_cmp_total slots s.key (slot_entry s).1 (map slot_entry list) all h e)

keys_listed : (list : List Slot) → keys_of (map slot_entry list) ≡ map (λ s. s.key) list
keys_listed [] = refl
keys_listed (s ∷ list) = ap (λ ks. s.key ∷ ks) (keys_listed list)

listed_sorted : (list : List Slot) → HaveRisingKeys list → T (is_sorted (slice_cmp nat_cmp) (map slot_entry list))
unfolding HaveRisingKeys
listed_sorted list rising =
    subst (λ es. T (is_sorted (slice_cmp nat_cmp) es)) (same_shown (map slot_entry list))
    (sorted (λ k. k) (slice_cmp nat_cmp) (map slot_entry list) (subst (IsStrictlySortedBy (slice_cmp nat_cmp)) (sym (keys_listed list)) rising))

pub slots_listed : (list : List Slot) → HaveRisingKeys list → fold with_listed empty list ≡ slots_written list
unfolding slots_written
slots_listed list rising =
    let h = listed_sorted list rising in
    same_entries_map _ _
    (entries-listed empty list (map slot_entry list) h (ap (λ es. es ++ map slot_entry list) (entries-empty (slice_cmp nat_cmp)))
    ∙ sym (entries-from_sorted (slice_cmp nat_cmp) (map slot_entry list) h))

-- what was written down is listed again
same_records : (list : List Slot) → map slot_record (map slot_entry list) ≡ list
same_records [] = refl
same_records (s ∷ list) = ap (λ rest. s ∷ rest) (same_records list)

slots_again : (list : List Slot) → HaveRisingKeys list → slot_records (slots_written list) ≡ list
unfolding slot_records slots_written
slots_again list rising =
    ap (map slot_record) (entries-from_sorted (slice_cmp nat_cmp) (map slot_entry list) (listed_sorted list rising)) ∙ same_records list

kind_again : (k : KindRecord) → HaveRisingKeys k.slots → kind_record k.kind (kind_written k) ≡ k
kind_again k rising =
    ap (λ (slots : List Slot). let r : KindRecord = record { kind = k.kind; generation = k.generation; append_floor = k.append_floor; slots = slots } in r) (slots_again k.slots rising)

-- a kind whose id is over those that are there comes last
put_over : {X : Type 0} (es : List (ℕ × X)) (id : ℕ) (v : X) → AllByRecursion (λ e. nat_cmp e.0 id ≡ Less) es → put nat_cmp id v es ≡ es ++ (id, v) ∷ []
put_over [] id v h = refl
put_over (e ∷ es) id v h =
    ap (λ r. match_ordering r ((id, v) ∷ e ∷ es) ((e.0, v) ∷ es) (e ∷ put nat_cmp id v es)) (nat_cmp_total.antisymm id e.0 ∙ ap ordering_reverse h.0)
    ∙ ap (λ rest. e ∷ rest) (put_over es id v h.1)

all_under : (kinds : Kinds) (id : ℕ) (es : List (ℕ × KindEntry)) → ((q : ℕ) → is_some (get kinds q) ≡ true → q < id) → AllByRecursion (λ e. get kinds e.0 ≡ Some e.1) es → AllByRecursion (λ e. nat_cmp e.0 id ≡ Less) es
all_under kinds id [] over there = tt
all_under kinds id (e ∷ es) over there = (is_less e.0 id (over e.0 (ap is_some there.0)), all_under kinds id es over there.1)
  where
    is_less : (a b : ℕ) → a < b → nat_cmp a b ≡ Less
    is_less a b l = sym (nat_cmp_is a b Less l)

pub kinds_listed : (kinds : Kinds) (k : KindRecord) → Follows kinds k → kind_records (insert kinds k.kind (kind_written k)) ≡ kind_records kinds ++ k ∷ []
unfolding kind_records
kinds_listed kinds k follows =
    let under = all_under kinds k.kind (entries kinds) follows.over (found_all nat_cmp nat_cmp_total (λ q. q) kinds (entries kinds) (same_shown (entries kinds))) in
    ap (map (λ (e : ℕ × KindEntry). kind_record e.0 e.1)) (entries-insert nat_cmp_total kinds k.kind (kind_written k) ∙ put_over (entries kinds) k.kind (kind_written k) under)
    ∙ map-append (λ (e : ℕ × KindEntry). kind_record e.0 e.1) (entries kinds) ((k.kind, kind_written k) ∷ [])
    ∙ ap (λ r. kind_records kinds ++ r ∷ []) (kind_again k follows.rising)

-- no kind is there yet
pub not_there : (kinds : Kinds) (k : KindRecord) → Follows kinds k → get kinds k.kind ≡ None
not_there kinds k follows =
    elim (get kinds k.kind) as (λ o. get kinds k.kind ≡ o → o ≡ None) [
      | None ↦ λ is. refl
      | Some x ↦ λ is. absurd (irreflexive k.kind (follows.over k.kind (ap is_some is)))
    ] refl
  where
    irreflexive : (n : ℕ) → n < n → ⊥
    irreflexive n l = omega (arith, l)
