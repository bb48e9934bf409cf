-- What a record has, and the one map from resources to records.
use Rattle.std.specs.Prelude.{ℕ, ◌+◌, ◌==◌, ◌&&◌, Bool, false, List, [], length, map, find, sum_by, Option, Some, None, unwrap_or, nat_le, if◌then◌else◌}
use Rattle.std.specs.Option.{option_map_or, option_and_then}
use Rattle.std.specs.List.{last_or}
use Rattle.std.specs.Int.{w32, from_be_bytes}
use Rattle.std.specs.Ordering.{nat_cmp}
use Rattle.std.specs.declared.cmp.Ordering.{Ordering}
use Rattle.std.specs.Cmp.Lexicographic.{slice_cmp}
use Rattle.std.specs.FinMap.{FinMap, get, empty, entries, keys, from_sorted}
use Rattle.storage_model.specs.declared.limits.TheConstants.{KIND_WEIGHT, SLOT_WEIGHT}
use Rattle.storage_model.specs.declared.record.Held.{Held}
use Rattle.storage_model.specs.declared.record.Kept.{Kept}

-- a slot: the greatest storage time that was ever accepted there, 0 before the first, and its value
pub record SlotEntry : Type 0 where
  pub floor : ℕ
  pub held : Option Held

-- slots by their keys as bytes, which rise: a single kind's key is empty, an index has 4 bytes
abbrev pub Slots : Type 0
Slots = FinMap (slice_cmp nat_cmp) SlotEntry

-- what a record has of a kind: its generation counter, the greatest storage time that was ever
-- appended, and its slots
pub record KindEntry : Type 0 where
  pub generation : ℕ
  pub append_floor : ℕ
  pub slots : Slots

-- kinds by Kind-ID
abbrev pub Kinds : Type 0
Kinds = FinMap nat_cmp KindEntry

-- a record: how often it changed, whether a peer joined with this resource as its Node-ID, the
-- kinds that have a slot, and the answers that are kept, the oldest first
pub record Record : Type 0 where
  pub turn : ℕ
  pub joined : Bool
  pub kinds : Kinds
  pub kept : List Kept

-- a record for each resource that was written
abbrev pub Map : Type 0
Map = FinMap nat_cmp Record

-- what is there where nothing was written
abbrev pub empty_slot : SlotEntry
empty_slot = record { floor = 0; held = None }

abbrev pub empty_kind : KindEntry
empty_kind = record { generation = 0; append_floor = 0; slots = empty }

abbrev pub empty_record : Record
empty_record = record { turn = 0; joined = false; kinds = empty; kept = [] }

-- the record of a resource, what a record has of a kind, and what a kind has at a key
abbrev pub record_in : Map → ℕ → Record
record_in m resource = unwrap_or (get m resource) empty_record

abbrev pub kind_in : Kinds → ℕ → KindEntry
kind_in kinds id = unwrap_or (get kinds id) empty_kind

abbrev pub slot_in : Slots → List ℕ → SlotEntry
slot_in slots key = unwrap_or (get slots key) empty_slot

-- the index behind the greatest that an array ever held, 0 at first: keys rise, so it stands last
unfoldable pub next_index : Slots → ℕ
next_index slots = option_map_or (λ key. from_be_bytes w32 key + 1) (last_or None (keys slots)) 0

-- the answer that is kept for an origin and a transaction id
unfoldable pub kept_for : List Kept → ℕ → ℕ → Option Kept
kept_for kept origin id = find (λ k. (k.origin.0 == origin) && (k.id == id)) kept

-- a value unless it is expired, which it is from its expiry on
unfoldable pub unexpired : ℕ → Option Held → Option Held
unexpired now held = option_and_then (λ h. if nat_le h.expiry now then None else Some h) held

-- a map with each value changed
unfoldable pub map_values : {K X Y : Type 0} {R : K → K → Ordering}
    → (X → Y) → FinMap R X → FinMap R Y
map_values change m = from_sorted (map (λ e. (e.0, change e.1)) (entries m))

-- a slot, a kind and kinds without their expired values; floors and slots stay
abbrev pub swept_slot : ℕ → SlotEntry → SlotEntry
swept_slot now s = record s { held = unexpired now s.held }

unfoldable pub swept : ℕ → KindEntry → KindEntry
swept now k = record k { slots = map_values (swept_slot now) k.slots }

unfoldable pub all_swept : ℕ → Kinds → Kinds
all_swept now kinds = map_values (swept now) kinds

-- what a slot weighs: 64, its key, and the StoredData that it holds, in bytes (this profile)
unfoldable pub slot_weight : List ℕ → SlotEntry → ℕ
slot_weight key s = SLOT_WEIGHT + length key + option_map_or (λ h. h.size) s.held 0

-- what a kind weighs: 32, and its slots (this profile)
unfoldable pub kind_weight : KindEntry → ℕ
kind_weight k = KIND_WEIGHT + sum_by (λ s. slot_weight s.0 s.1) (entries k.slots)

-- what a record's kinds weigh together
unfoldable pub weight : Kinds → ℕ
weight kinds = sum_by (λ k. kind_weight k.1) (entries kinds)
