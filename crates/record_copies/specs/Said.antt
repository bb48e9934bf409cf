-- What a note and its Store say, as it is taken from their fronts and weighed.
use Rattle.std.specs.Prelude.{ℕ, ◌+◌, ◌<◌, ◌≤◌, Bool, true, false, List, [], ◌∷◌, length, map, Option, Some, None, sum_by}
use Rattle.std.specs.Option.{option_map, option_map_or}
use Rattle.std.specs.List.{AllByRecursion}
use Rattle.std.specs.List.Sorted.{IsStrictlySortedBy}
use Rattle.std.specs.Ordering.{nat_cmp}
use Rattle.std.specs.Cmp.Lexicographic.{slice_cmp}
use Rattle.data_models.specs.declared.stored_data.StoredData.{StoredData}
use Rattle.data_models.specs.declared.fetched.StoreKind.{StoreKind}
use Rattle.data_models.specs.Stored.{stored_size}
use Rattle.storage_model.specs.declared.limits.TheConstants.{KIND_WEIGHT, SLOT_WEIGHT, MAX_WEIGHT}
use Rattle.storage_model.specs.Records.{SlotEntry, slot_weight}
use Rattle.peer_note.specs.declared.kind_note.SlotNote.{SlotNote}
use Rattle.peer_note.specs.declared.kind_note.KindNote.{KindNote}
use Rattle.node_model.specs.Copies.{values_in, held_until, slot_said, slots_said}

-- the value for the first of some slots, where it is held
abbrev pub value_for : Bool → List StoredData → Option StoredData
value_for false vs = None
value_for true [] = None
value_for true (v ∷ vs) = Some v

-- the values for the other slots
abbrev pub values_after : Bool → List StoredData → List StoredData
values_after false vs = vs
values_after true [] = []
values_after true (v ∷ vs) = vs

-- a slot that a note says, with this value
abbrev pub slot_with : SlotNote → Option StoredData → List ℕ × SlotEntry
slot_with n v = slot_said n (option_map (held_until n.expiry) v)

-- what it weighs
unfoldable pub weight_with : SlotNote → Option StoredData → ℕ
weight_with n v = SLOT_WEIGHT + length n.key + option_map_or stored_size v 0

-- what the slots weigh that a note and the values beside it say
unfoldable pub slots_weight : List SlotNote → List StoredData → ℕ
slots_weight ns vs = sum_by (λ s. slot_weight s.0 s.1) (slots_said ns vs)

-- what a kind weighs that its note and its values say, where its keys rise
unfoldable pub kind_weight_said : KindNote → StoreKind → ℕ
kind_weight_said n k = KIND_WEIGHT + slots_weight n.slots (values_in k.values)

-- what the kinds weigh that a note and a Store say
unfoldable pub kinds_weight : List KindNote → List StoreKind → ℕ
kinds_weight (n ∷ ns) (k ∷ ks) = kind_weight_said n k + kinds_weight ns ks
kinds_weight _ _ = 0

-- a kind that has slots, by rising key
pub record IsPlaced (n : KindNote) : Type 0 where
  pub some : 0 < length n.slots
  pub rising : IsStrictlySortedBy (slice_cmp nat_cmp) (map (λ s. s.key) n.slots)

-- kinds by rising Kind-ID that are light enough for a record
pub record ArePlaced (ns : List KindNote) (ks : List StoreKind) : Type 0 where
  pub rising : IsStrictlySortedBy nat_cmp (map (λ n. n.kind) ns)
  pub each : AllByRecursion IsPlaced ns
  pub light : kinds_weight ns ks ≤ MAX_WEIGHT
