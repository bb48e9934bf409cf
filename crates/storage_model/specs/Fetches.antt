-- What a Fetch is answered, in the order of this profile (RFC 6940, 7.4.2). The record stays.
use Rattle.std.specs.Prelude.{ℕ, ◌+◌, ◌-◌, ◌/◌, ◌^◌, ◌==◌, ◌&&◌, ◌||◌, Bool, not, min, List, [], ◌∷◌, ◌++◌, map, Option, Some, None, nat_lt, is_some, is_none, if◌then◌else◌, sum_by}
use Rattle.std.specs.Option.{option_map_or}
use Rattle.std.specs.List.{list_any, filter, flat_map, range_with_len}
use Rattle.std.specs.FinMap.{entries}
use Rattle.data_models.specs.declared.config.Config.{Config}
use Rattle.data_models.specs.declared.stored_data.StoredData.{StoredData}
use Rattle.data_models.specs.declared.stored_data.SlotKey.{SlotKey}
use Rattle.data_models.specs.declared.stored_data.SlotKey.TheVariants as keys
use Rattle.data_models.specs.declared.fetched.Selector.{Selector}
use Rattle.data_models.specs.declared.fetched.Selector.TheVariants.{Whole, Ranges, Names, Raw}
use Rattle.data_models.specs.declared.fetched.Specifier.{Specifier}
use Rattle.data_models.specs.declared.fetched.KindValues.TheVariants.{Known}
use Rattle.data_models.specs.declared.fetched.StoreKind.{StoreKind}
use Rattle.data_models.specs.Configs.{kind_of}
use Rattle.data_models.specs.Stored.{key_of, gap, stored_size}
use Rattle.storage_model.specs.declared.limits.TheConstants.{MAX_ANSWER}
use Rattle.storage_model.specs.declared.record.Held.{Held}
use Rattle.storage_model.specs.declared.request.FetchAsked.{FetchAsked}
use Rattle.storage_model.specs.declared.refusal.Refusal.{Refusal}
use Rattle.storage_model.specs.declared.refusal.Refusal.TheVariants.{UnknownKind, UnknownExtension, ResponseTooLarge}
use Rattle.storage_model.specs.declared.verdict.FetchVerdict.{FetchVerdict}
use Rattle.storage_model.specs.declared.verdict.FetchVerdict.TheVariants.{Values, Refused}
use Rattle.storage_model.specs.Records.{Slots, KindEntry, Kinds, kind_in, slot_in, next_index, unexpired}
use Rattle.storage_model.specs.Refusals.{Cause, first_cause, sequence_causes}

-- the rest of a lifetime in whole seconds, rounded up, at most 2^32 - 1
unfoldable pub rest_of : ℕ → ℕ → ℕ
rest_of now expiry = min ((expiry - now + 999) / 1000) (2 ^ 32 - 1)

-- a value that is held, as a Fetch gives it
unfoldable pub found_of : ℕ → SlotKey → Held → StoredData
found_of now key h = record {
  key = key;
  storage_time = h.storage_time;
  lifetime = rest_of now h.expiry;
  present = h.present;
  value = h.value;
  signature = h.signature;
}

-- what a Fetch gives for a slot: its value unless that is expired, else a gap
unfoldable pub given_for : ℕ → SlotKey → Option Held → StoredData
given_for now key held = option_map_or (found_of now key) (unexpired now held) (gap key)

-- its bytes: those of the StoredData, or of the gap
unfoldable pub given_size : ℕ → SlotKey → Option Held → ℕ
given_size now key held = option_map_or (λ h. h.size) (unexpired now held) (stored_size (gap key))

-- the indices of a range, up to the greatest that the array ever held
abbrev pub indices : Slots → ℕ × ℕ → List ℕ
indices slots range = range_with_len range.0 (min (range.1 + 1) (next_index slots) - range.0)

-- the names of all slots whose values aren't expired, by rising bytes
unfoldable pub live_names : ℕ → Slots → List (List ℕ)
live_names now slots =
    map (λ s. s.0) (filter (λ s. is_some (unexpired now s.1.held)) (entries slots))

-- the slots that a selector asks for: the whole of a single kind, the indices of each range, the
-- names, or all of them where it has none
abbrev pub slots_asked : ℕ → Slots → Selector → List SlotKey
slots_asked now slots Whole = keys.Whole ∷ []
slots_asked now slots (Ranges ranges) =
    flat_map (λ range. map keys.Index (indices slots range)) ranges
slots_asked now slots (Names []) = map keys.Name (live_names now slots)
slots_asked now slots (Names (name ∷ names)) = map keys.Name (name ∷ names)
slots_asked now slots (Raw bytes) = []

-- whether the asker has the stored generation already
unfoldable pub is_known : KindEntry → Specifier → Bool
is_known k s = not (s.generation == 0) && (s.generation == k.generation)

-- the slots of a specifier: none where the asker has their generation
unfoldable pub slots_given : ℕ → KindEntry → Specifier → List SlotKey
slots_given now k s = if is_known k s then [] else slots_asked now k.slots s.selector

-- the values that are given for them
unfoldable pub values_for : ℕ → KindEntry → Specifier → List StoredData
values_for now k s =
    map (λ key. given_for now key (slot_in k.slots (key_of key)).held) (slots_given now k s)

-- a kind of an answer
unfoldable pub kind_for : ℕ → Kinds → Specifier → StoreKind
kind_for now kinds s =
    let k = kind_in kinds s.kind in
    record { kind = s.kind; generation = k.generation; values = Known (values_for now k s) }

-- its bytes: the Kind-ID, the generation counter and the length of its values, and those
unfoldable pub kind_size : ℕ → Kinds → Specifier → ℕ
kind_size now kinds s =
    let k = kind_in kinds s.kind in
    16
    + sum_by (λ key. given_size now key (slot_in k.slots (key_of key)).held) (slots_given now k s)

-- the bytes of an answer's message contents: the code, three lengths, and its kinds
unfoldable pub answer_size : ℕ → Kinds → List Specifier → ℕ
answer_size now kinds specifiers = 14 + sum_by (kind_size now kinds) specifiers

-- an answer passes 200,000 bytes, or the asker's own limit
unfoldable pub is_too_long : ℕ → ℕ → Bool
is_too_long max size = nat_lt MAX_ANSWER size || (not (max == 0) && nat_lt max size)

-- why a Fetch is refused, in this order
unfoldable pub fetch_causes : Config → ℕ → Kinds → FetchAsked → List Cause
fetch_causes config now kinds request =
    sequence_causes config request.sequence
    ++ (UnknownExtension, request.strange)
    ∷ (UnknownKind, list_any (λ s. is_none (kind_of config s.kind)) request.specifiers)
    ∷ (ResponseTooLarge, is_too_long request.max (answer_size now kinds request.specifiers))
    ∷ []

-- what a Fetch is answered: refused for the first cause that holds, or else its kinds
abbrev pub answered : Option Refusal → List StoreKind → FetchVerdict
answered (Some cause) kinds = Refused cause
answered None kinds = Values kinds

unfoldable pub fetch_verdict : Config → ℕ → Kinds → FetchAsked → FetchVerdict
fetch_verdict config now kinds request =
    answered (first_cause (fetch_causes config now kinds request))
    (map (kind_for now kinds) request.specifiers)
