-- What there is of a kind that isn't there.
use Rattle.std.proofs.Common.{◌≡◌, ◌+◌, ℕ, List, ap, sym, ◌∙◌, arith, min}
use Rattle.std.specs.Prelude.{None, unwrap_or, nat_lt, map}
use Rattle.std.specs.Option.{option_map_or}
use Rattle.std.specs.List.{last_or}
use Rattle.std.specs.Int.{w32, from_be_bytes}
use Rattle.std.specs.Ordering.{nat_cmp}
use Rattle.std.specs.Cmp.Lexicographic.{slice_cmp}
use Rattle.std.specs.FinMap.{get, len, get-empty, len-empty}
use Rattle.storage_model.specs.Records.{SlotEntry, Kinds, kind_in, slot_in, next_index, empty_kind, empty_slot}
use Rattle.ordered_tables.proofs.Trees.{entries-empty}
use Rattle.std.proofs.lemmas.Bool.Decides.{nat_tests}

pub floor_none : (kinds : Kinds) (id : ℕ) (key : List ℕ) → None ≡ get kinds id → 0 ≡ (slot_in (kind_in kinds id).slots key).floor
floor_none kinds id key none =
    ap (λ o. (unwrap_or o empty_slot).floor) (sym (get-empty (slice_cmp nat_cmp) key))
    ∙ ap (λ o. (slot_in (unwrap_or o empty_kind).slots key).floor) none

pub next_none : (kinds : Kinds) (id : ℕ) → None ≡ get kinds id → 0 ≡ next_index (kind_in kinds id).slots
unfolding next_index
next_none kinds id none =
    ap (λ es. option_map_or (λ key. from_be_bytes w32 key + 1) (last_or None (map (λ e. e.0) es)) 0) (sym (entries-empty {X = SlotEntry} (slice_cmp nat_cmp)))
    ∙ ap (λ o. next_index (unwrap_or o empty_kind).slots) none

pub count_none : (kinds : Kinds) (id : ℕ) → None ≡ get kinds id → 0 ≡ len (kind_in kinds id).slots
count_none kinds id none =
    sym (len-empty (slice_cmp nat_cmp) SlotEntry) ∙ ap (λ o. len (unwrap_or o empty_kind).slots) none

pub heavy : (a b : ℕ) → min a 131073 ≡ min b 131073 → nat_lt 131072 a ≡ nat_lt 131072 b
heavy a b e = grind (arith, nat_tests, e)
