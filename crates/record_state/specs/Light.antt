-- Running sums: what a record weighs, counted no further than is needed to tell that it is too
-- much, and a clock before which nothing expires.
use Rattle.std.specs.Prelude.{ℕ, ◌+◌, ◌<◌, ◌≤◌, ◌^◌, List, Option, IsSome, min, sum_by}
use Rattle.std.specs.Option.{option_map_or}
use Rattle.std.specs.FinMap.{entries, get}
use Rattle.storage_model.specs.declared.limits.TheConstants.{MAX_WEIGHT}
use Rattle.storage_model.specs.declared.record.Held.{Held}
use Rattle.storage_model.specs.Records.{SlotEntry, Slots, KindEntry, Kinds, slot_in, slot_weight, kind_weight}

-- a weight, or one more than a record may weigh where it is more
abbrev pub counted : ℕ → ℕ
counted weight = min weight (MAX_WEIGHT + 1)

abbrev pub counted_slot : List ℕ × SlotEntry → ℕ
counted_slot s = counted (slot_weight s.0 s.1)

abbrev pub counted_kind : ℕ × KindEntry → ℕ
counted_kind k = counted (kind_weight k.1)

unfoldable pub slots_sum : Slots → ℕ
slots_sum slots = sum_by counted_slot (entries slots)

unfoldable pub kinds_sum : Kinds → ℕ
kinds_sum kinds = sum_by counted_kind (entries kinds)

-- when a value expires, never where there is none
abbrev pub expiry_of : Option Held → ℕ
expiry_of held = option_map_or (λ h. h.expiry) held (2 ^ 64)

-- no value of these slots expires before a clock
unfoldable pub IsNoSooner : ℕ → Slots → Type 0
IsNoSooner soonest slots =
    (soonest ≤ 2 ^ 64) × ((key : List ℕ) → soonest ≤ expiry_of (slot_in slots key).held)

-- the keys of kinds are Kind-IDs
unfoldable pub AreKindIds : Kinds → Type 0
AreKindIds kinds = (id : ℕ) → IsSome (get kinds id) → id < 2 ^ 32
