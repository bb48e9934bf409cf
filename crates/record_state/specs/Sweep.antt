-- Expired values leave one by one.
use Rattle.std.specs.Prelude.{ℕ, Bool, false, List, nat_le}
use Rattle.std.specs.Option.{option_map_or}
use Rattle.std.specs.FinMap.{get, insert}
use Rattle.storage_model.specs.Records.{SlotEntry, Slots, KindEntry, Kinds, swept_slot, swept}

-- a slot holds a value that is expired
abbrev pub is_expired : ℕ → SlotEntry → Bool
is_expired now s = option_map_or (λ h. nat_le h.expiry now) s.held false

-- slots without the value at a key where it is expired
unfoldable pub emptied_at : ℕ → Slots → List ℕ → Slots
emptied_at now slots key =
    option_map_or (λ s. insert slots key (swept_slot now s)) (get slots key) slots

abbrev pub with_slots : KindEntry → Slots → KindEntry
with_slots k slots = record k { slots = slots }

-- the same in a kind
unfoldable pub emptied_on : ℕ → ℕ → Kinds → List ℕ → Kinds
emptied_on now id kinds key =
    option_map_or (λ k. insert kinds id (with_slots k (emptied_at now k.slots key)))
    (get kinds id) kinds

-- kinds without the expired values of one of them
unfoldable pub swept_on : ℕ → Kinds → ℕ → Kinds
swept_on now kinds id = option_map_or (λ k. insert kinds id (swept now k)) (get kinds id) kinds
