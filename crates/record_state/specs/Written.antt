-- Kinds and their slots, written down in their order.
use Rattle.std.specs.Prelude.{◌<◌, ℕ, List, IsSome, length, map}
use Rattle.std.specs.Ordering.{nat_cmp}
use Rattle.std.specs.Cmp.Lexicographic.{slice_cmp}
use Rattle.std.specs.List.Sorted.{IsStrictlySortedBy}
use Rattle.std.specs.FinMap.{entries, get, from_sorted}
use Rattle.storage_model.specs.declared.record.Slot.{Slot}
use Rattle.storage_model.specs.declared.record.KindRecord.{KindRecord}
use Rattle.storage_model.specs.Records.{SlotEntry, Slots, KindEntry, Kinds}

-- a slot, and slots by rising key
abbrev pub slot_record : List ℕ × SlotEntry → Slot
slot_record s = record { key = s.0; floor = s.1.floor; held = s.1.held }

unfoldable pub slot_records : Slots → List Slot
slot_records slots = map slot_record (entries slots)

-- a kind, and kinds by rising Kind-ID
abbrev pub kind_record : ℕ → KindEntry → KindRecord
kind_record id k = record {
  kind = id;
  generation = k.generation;
  append_floor = k.append_floor;
  slots = slot_records k.slots;
}

unfoldable pub kind_records : Kinds → List KindRecord
kind_records kinds = map (λ k. kind_record k.0 k.1) (entries kinds)

-- the slots, and the kind, that are written down so
abbrev pub slot_entry : Slot → List ℕ × SlotEntry
slot_entry s = (s.key, record { floor = s.floor; held = s.held })

unfoldable pub slots_written : List Slot → Slots
slots_written slots = from_sorted (map slot_entry slots)

abbrev pub kind_written : KindRecord → KindEntry
kind_written k = record {
  generation = k.generation;
  append_floor = k.append_floor;
  slots = slots_written k.slots;
}

-- each key is over the one before
unfoldable pub HaveRisingKeys : List Slot → Type 0
HaveRisingKeys slots = IsStrictlySortedBy (slice_cmp nat_cmp) (map (λ s. s.key) slots)

-- a kind that may follow others: its id is over theirs, and it has slots, by rising key
pub record Follows (kinds : Kinds) (k : KindRecord) : Type 0 where
  pub over : (id : ℕ) → IsSome (get kinds id) → id < k.kind
  pub some : 0 < length k.slots
  pub rising : HaveRisingKeys k.slots
