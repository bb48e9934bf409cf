-- Slots that are put one by one into the kinds of a record, and how that is undone.
use Rattle.std.specs.Prelude.{ℕ, List, Option, Some, None, is_some, if◌then◌else◌}
use Rattle.std.specs.FinMap.{get, insert, remove}
use Rattle.storage_model.specs.Records.{SlotEntry, Slots, KindEntry, Kinds, kind_in}

-- slots once a slot is again what it was
unfoldable pub slot_restored : Slots → List ℕ → Option SlotEntry → Slots
slot_restored slots key None = remove slots key
slot_restored slots key (Some s) = if is_some (get slots key) then insert slots key s else slots

-- a kind with a slot put, and with these counters
abbrev pub with_slot : KindEntry → ℕ → ℕ → List ℕ → SlotEntry → KindEntry
with_slot k generation append_floor key s = record {
  generation = generation;
  append_floor = append_floor;
  slots = insert k.slots key s;
}

-- kinds with a slot of a kind put, and with these counters of it
unfoldable pub slot_put : Kinds → ℕ → ℕ → ℕ → List ℕ → SlotEntry → Kinds
slot_put kinds id generation append_floor key s =
    insert kinds id (with_slot (kind_in kinds id) generation append_floor key s)

-- a kind once a slot of it is again what it was, with the counters that it had
abbrev pub kind_restored : KindEntry → ℕ × ℕ → List ℕ → Option SlotEntry → KindEntry
kind_restored k counters key before = record {
  generation = counters.0;
  append_floor = counters.1;
  slots = slot_restored k.slots key before;
}

-- kinds once a slot that was put is again what it was; a kind that wasn't there leaves
unfoldable pub restored : Kinds → ℕ → Option (ℕ × ℕ) → List ℕ → Option SlotEntry → Kinds
restored kinds id None key before = remove kinds id
restored kinds id (Some counters) key before =
    if is_some (get kinds id)
    then insert kinds id (kind_restored (kind_in kinds id) counters key before)
    else kinds

-- kinds that are being changed, and what they were before
pub record Drafted : Type 0 where
  pub before : Kinds
  pub kinds : Kinds
