-- The values of an answer to a Fetch, gathered one after the other with their size.
use Rattle.std.specs.Prelude.{ℕ, ◌+◌, min, nat_lt, map, List, [], ◌∷◌, ◌++◌, fold, if◌then◌else◌}
use Rattle.data_models.specs.declared.stored_data.SlotKey.{SlotKey}
use Rattle.data_models.specs.declared.stored_data.SlotKey.TheVariants as keys
use Rattle.data_models.specs.declared.stored_data.StoredData.{StoredData}
use Rattle.data_models.specs.declared.fetched.KindValues.TheVariants.{Known}
use Rattle.data_models.specs.declared.fetched.Specifier.{Specifier}
use Rattle.data_models.specs.declared.fetched.StoreKind.{StoreKind}
use Rattle.data_models.specs.Stored.{key_of}
use Rattle.storage_model.specs.Records.{Slots, Kinds, kind_in, slot_in}
use Rattle.storage_model.specs.Fetches.{given_for, given_size, indices, slots_given}
use Rattle.kind_store.specs.declared.gathering.Gathering.{Gathering}
use Rattle.kind_store.specs.declared.gathering.TheConstants.{ENOUGH}
use Rattle.kind_store.specs.declared.fetch.Found.{Found}

-- what is given for a key, and its size
abbrev pub given_at : ℕ → Slots → SlotKey → StoredData
given_at now slots key = given_for now key (slot_in slots (key_of key)).held

abbrev pub size_at : ℕ → Slots → SlotKey → ℕ
size_at now slots key = given_size now key (slot_in slots (key_of key)).held

-- with the value of one more key; a size is counted up to what no answer may have, and behind that
-- no value is gathered
unfoldable pub with_key : ℕ → Slots → Gathering → SlotKey → Gathering
with_key now slots g key =
    let size = min (g.size + size_at now slots key) ENOUGH in
    record {
      values = if nat_lt size ENOUGH then g.values ++ given_at now slots key ∷ [] else g.values;
      size = size;
    }

-- with the values of some keys
unfoldable pub with_keys : ℕ → Slots → Gathering → List SlotKey → Gathering
with_keys now slots g list = fold (with_key now slots) g list

-- with the values of a range of indices
unfoldable pub with_range : ℕ → Slots → Gathering → ℕ × ℕ → Gathering
with_range now slots g range = with_keys now slots g (map keys.Index (indices slots range))

-- the values of a kind of an answer, where the answer had a size before it
unfoldable pub gathered : ℕ → Kinds → ℕ → Specifier → Gathering
gathered now kinds size s =
    let k = kind_in kinds s.kind in
    with_keys now k.slots (record { values = []; size = min (size + 16) ENOUGH })
    (slots_given now k s)

-- an answer with one more kind
unfoldable pub with_kind : ℕ → Kinds → Found → Specifier → Found
with_kind now kinds f s =
    let g = gathered now kinds f.size s in
    let generation = (kind_in kinds s.kind).generation in
    record {
      kinds = f.kinds ++ (record {
        kind = s.kind;
        generation = generation;
        values = Known g.values;
      }) ∷ [];
      size = g.size;
    }
