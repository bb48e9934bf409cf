-- Copies of records between peers: what a Store says of a record, in its kinds and in its note (this
-- profile).
use Rattle.std.specs.Prelude.{ℕ, ◌==◌, ◌&&◌, ◌||◌, Bool, true, false, not, List, [], ◌∷◌, length, map, nat_lt, nat_le, Option, Some, None, is_some, if◌then◌else◌}
use Rattle.std.specs.Option.{option_map, option_map_or}
use Rattle.std.specs.List.{filter_map, list_all}
use Rattle.std.specs.Int.{w32, from_be_bytes}
use Rattle.std.specs.Str.{bytes_eq}
use Rattle.std.specs.Ordering.{nat_cmp, is_lt}
use Rattle.std.specs.Cmp.Lexicographic.{slice_cmp}
use Rattle.std.specs.FinMap.{entries, from_sorted}
use Rattle.data_models.specs.declared.config.Config.{Config}
use Rattle.data_models.specs.declared.config.DataModel.{DataModel}
use Rattle.data_models.specs.declared.config.DataModel.TheVariants.{Single, Array, Dictionary}
use Rattle.data_models.specs.declared.stored_data.TheConstants.{END_INDEX}
use Rattle.data_models.specs.declared.stored_data.StoredData.{StoredData}
use Rattle.data_models.specs.declared.stored_data.SlotKey.{SlotKey}
use Rattle.data_models.specs.declared.stored_data.SlotKey.TheVariants.{Whole, Index, Name}
use Rattle.data_models.specs.declared.fetched.StoreKind.{StoreKind}
use Rattle.data_models.specs.declared.fetched.KindValues.{KindValues}
use Rattle.data_models.specs.declared.fetched.KindValues.TheVariants.{Known, Raw}
use Rattle.data_models.specs.Configs.{model_in}
use Rattle.data_models.specs.Stored.{key_of, stored_size}
use Rattle.storage_model.specs.declared.limits.TheConstants.{MAX_KEPT, MAX_WEIGHT}
use Rattle.storage_model.specs.declared.record.Held.{Held}
use Rattle.storage_model.specs.declared.record.Kept.{Kept}
use Rattle.storage_model.specs.Records.{SlotEntry, Slots, KindEntry, Record, weight}
use Rattle.storage_model.specs.Fetches.{found_of}
use Rattle.peer_note.specs.declared.kind_note.SlotNote.{SlotNote}
use Rattle.peer_note.specs.declared.kind_note.KindNote.{KindNote}
use Rattle.peer_note.specs.declared.kept_answer.KeptAnswer.{KeptAnswer}
use Rattle.peer_note.specs.declared.note.StoreNote.{StoreNote}

-- ---- a copy is made

-- the key of a slot with these bytes, of a model
unfoldable pub slot_key : DataModel → List ℕ → SlotKey
slot_key Single key = Whole
slot_key Array key = Index (from_be_bytes w32 key)
slot_key Dictionary key = Name key

-- what a note says of a slot: the value itself stands beside it
unfoldable pub slot_noted : List ℕ × SlotEntry → SlotNote
slot_noted s = record {
  key = s.0;
  floor = s.1.floor;
  held = is_some s.1.held;
  expiry = option_map_or (λ h. h.expiry) s.1.held 0;
}

-- what a note says of a kind
unfoldable pub kind_noted : ℕ × KindEntry → KindNote
kind_noted k = record {
  kind = k.0;
  generation = k.1.generation;
  append_floor = k.1.append_floor;
  slots = map slot_noted (entries k.1.slots);
}

-- what a note says of an answer that is kept
abbrev pub kept_noted : Kept → KeptAnswer
kept_noted k = record { origin = k.origin; id = k.id; code = k.code; counters = k.counters }

-- what a note says of a record
unfoldable pub noted : Record → StoreNote
noted x = record {
  turn = x.turn;
  joined = x.joined;
  kinds = map kind_noted (entries x.kinds);
  kept = map kept_noted x.kept;
}

-- the value that a slot holds, expired or not, with the rest of its lifetime
abbrev pub value_copied : ℕ → DataModel → List ℕ × SlotEntry → Option StoredData
value_copied now model s = option_map (found_of now (slot_key model s.0)) s.1.held

-- the values of a kind, in the order of its slots; one without a definition has none
unfoldable pub values_copied : ℕ → Option DataModel → Slots → KindValues
values_copied now (Some model) slots = Known (filter_map (value_copied now model) (entries slots))
values_copied now None slots = Raw []

-- a kind with its values
unfoldable pub kind_copied : Config → ℕ → ℕ × KindEntry → StoreKind
kind_copied config now k = record {
  kind = k.0;
  generation = k.1.generation;
  values = values_copied now (model_in config k.0) k.1.slots;
}

-- the kinds of a Store that copies a record
unfoldable pub copied_kinds : Config → ℕ → Record → List StoreKind
copied_kinds config now x = map (kind_copied config now) (entries x.kinds)

-- ---- a copy is heard

-- the values of a kind, none where it has no definition
abbrev pub values_in : KindValues → List StoredData
values_in (Known vs) = vs
values_in (Raw bytes) = []

-- whether the values beside a note are those of its slots: one with the slot's key for each slot
-- that is held, in their order
abbrev pub are_values_of : List SlotNote → List StoredData → Bool
are_values_of [] [] = true
are_values_of [] (v ∷ vs) = false
are_values_of (n ∷ ns) vs = if n.held then (elim vs [
  | [] ↦ false
  | v ∷ rest ↦ bytes_eq (key_of v.key) n.key && are_values_of ns rest
]) else are_values_of ns vs

-- whether a kind of a Store is that of its note, with the same generation and the values of its
-- slots
unfoldable pub agrees : KindNote → StoreKind → Bool
agrees n k =
    (n.kind == k.kind)
    && (n.generation == k.generation)
    && are_values_of n.slots (values_in k.values)

-- whether a Store has the kinds of its note, in their order
abbrev pub all_agree : List KindNote → List StoreKind → Bool
all_agree [] [] = true
all_agree (n ∷ ns) (k ∷ ks) = agrees n k && all_agree ns ks
all_agree _ _ = false

-- whether a thing and some others come each before the next one
abbrev pub rise_from : {X : Type 0} → (X → X → Bool) → X → List X → Bool
rise_from before x [] = true
rise_from before x (y ∷ ys) = before x y && rise_from before y ys

-- whether each of all of them does
abbrev pub rise : {X : Type 0} → (X → X → Bool) → List X → Bool
rise before [] = true
rise before (x ∷ xs) = rise_from before x xs

-- whether bytes are the key of a slot of a model
unfoldable pub is_slot_key : DataModel → List ℕ → Bool
is_slot_key Single key = length key == 0
is_slot_key Array key = (length key == 4) && nat_lt (from_be_bytes w32 key) END_INDEX
is_slot_key Dictionary key = true

-- whether a slot has a key of its kind's model, and an expiry only where it is held
unfoldable pub is_sound_slot : DataModel → SlotNote → Bool
is_sound_slot model s = is_slot_key model s.key && (s.held || (s.expiry == 0))

-- whether a kind has a definition, and at least one slot, and these are sound and rise
unfoldable pub is_sound_kind : Config → KindNote → Bool
is_sound_kind config k =
    option_map_or (λ model. list_all (is_sound_slot model) k.slots) (model_in config k.kind) false
    && not (length k.slots == 0)
    && rise (λ a b. is_lt (slice_cmp nat_cmp a.key b.key)) k.slots

-- a value in a slot, until a clock
unfoldable pub held_until : ℕ → StoredData → Held
held_until expiry v = record {
  storage_time = v.storage_time;
  present = v.present;
  value = v.value;
  signature = v.signature;
  size = stored_size v;
  expiry = expiry;
}

-- a slot that a note says, and what it holds
abbrev pub slot_said : SlotNote → Option Held → List ℕ × SlotEntry
slot_said n held = (n.key, record { floor = n.floor; held = held })

-- the slots that a note and the values beside it say: each that is held has the next value
abbrev pub slots_said : List SlotNote → List StoredData → List (List ℕ × SlotEntry)
slots_said [] vs = []
slots_said (n ∷ ns) vs = if n.held then (elim vs [
  | [] ↦ slot_said n None ∷ slots_said ns []
  | v ∷ rest ↦ slot_said n (Some (held_until n.expiry v)) ∷ slots_said ns rest
]) else slot_said n None ∷ slots_said ns vs

-- a kind that its note and its values say
unfoldable pub kind_said : KindNote → StoreKind → ℕ × KindEntry
kind_said n k = (
  n.kind,
  record {
    generation = n.generation;
    append_floor = n.append_floor;
    slots = from_sorted (slots_said n.slots (values_in k.values));
  },
)

-- the kinds that a note and a Store say
abbrev pub kinds_said : List KindNote → List StoreKind → List (ℕ × KindEntry)
kinds_said (n ∷ ns) (k ∷ ks) = kind_said n k ∷ kinds_said ns ks
kinds_said _ _ = []

-- an answer that is kept, as a note says it
abbrev pub kept_said : KeptAnswer → Kept
kept_said k = record { origin = k.origin; id = k.id; code = k.code; counters = k.counters }

-- the record that a note and a Store say
unfoldable pub record_said : StoreNote → List StoreKind → Record
record_said n ks = record {
  turn = n.turn;
  joined = n.joined;
  kinds = from_sorted (kinds_said n.kinds ks);
  kept = map kept_said n.kept;
}

-- whether a note and its Store agree and are within the limits of a record
unfoldable pub is_sound_copy : Config → StoreNote → List StoreKind → Bool
is_sound_copy config n ks =
    all_agree n.kinds ks
    && rise (λ a b. nat_lt a.kind b.kind) n.kinds
    && list_all (is_sound_kind config) n.kinds
    && nat_le (length n.kept) MAX_KEPT
    && nat_le (weight (record_said n ks).kinds) MAX_WEIGHT

-- the record that a note and its Store say, if they make sense
unfoldable pub given_record : Config → StoreNote → List StoreKind → Option Record
given_record config n ks = if is_sound_copy config n ks then Some (record_said n ks) else None
