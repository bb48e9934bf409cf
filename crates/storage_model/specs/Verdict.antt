-- What is decided of a Store, in the order of this profile (RFC 6940, 7.4.1).
use Rattle.std.specs.Prelude.{ℕ, ◌+◌, ◌==◌, ◌&&◌, ◌||◌, Bool, true, false, not, List, [], ◌∷◌, ◌++◌, length, map, Option, Some, None, nat_lt, nat_le, is_none, if◌then◌else◌}
use Rattle.std.specs.Option.{option_map_or}
use Rattle.std.specs.List.{list_any}
use Rattle.std.specs.FinMap.{len}
use Rattle.reload_base.specs.Lists.{pushed_within}
use Rattle.reload_ids.specs.declared.NodeId.{NodeId}
use Rattle.data_models.specs.declared.config.Config.{Config}
use Rattle.data_models.specs.declared.config.KindDef.{KindDef}
use Rattle.data_models.specs.declared.stored_data.SlotKey.{SlotKey}
use Rattle.data_models.specs.declared.stored_data.SlotKey.TheVariants.{Index, End}
use Rattle.data_models.specs.Configs.{kind_of}
use Rattle.data_models.specs.Stored.{key_of}
use Rattle.storage_model.specs.declared.limits.TheConstants.{MAX_WEIGHT, MAX_KEPT}
use Rattle.storage_model.specs.declared.record.Kept.{Kept}
use Rattle.storage_model.specs.declared.request.Value.{Value}
use Rattle.storage_model.specs.declared.request.AskedKind.{AskedKind}
use Rattle.storage_model.specs.declared.request.StoreAsked.{StoreAsked}
use Rattle.storage_model.specs.declared.refusal.Refusal.{Refusal}
use Rattle.storage_model.specs.declared.refusal.Refusal.TheVariants.{Forbidden, GenerationCounterTooLow, DataTooLarge, DataTooOld, UnknownKind, UnknownExtension, ConfigTooOld, ConfigTooNew}
use Rattle.storage_model.specs.declared.verdict.StoreVerdict.{StoreVerdict}
use Rattle.storage_model.specs.Records.{Slots, Kinds, Record, kind_in, slot_in, next_index, kept_for, weight}
use Rattle.storage_model.specs.Refusals.{Cause, error_code, first_cause, sequence_causes}
use Rattle.storage_model.specs.Requests.{values_of, puts, placed, appended, is_permitted}
use Rattle.storage_model.specs.Puts.{kinds_after}

unfoldable pub is_unknown : Config → AskedKind → Bool
is_unknown config a = is_none (kind_of config a.kind)

-- a value isn't permitted by its kind
abbrev pub forbids : KindDef → ℕ → List Value → Bool
forbids kind resource values = list_any (λ v. not (is_permitted kind resource v)) values

unfoldable pub is_forbidden : Config → ℕ → AskedKind → Bool
is_forbidden config resource a =
    option_map_or (λ kind. forbids kind resource (values_of a)) (kind_of config a.kind) false

-- a counter is asked for that is neither 0 nor the stored one
unfoldable pub asks_other_generation : Kinds → AskedKind → Bool
asks_other_generation kinds a =
    not (a.generation == 0) && not (a.generation == (kind_in kinds a.kind).generation)

-- some append isn't over the floor that those before it leave
unfoldable pub is_stale : ℕ → List Value → Bool
is_stale floor [] = false
is_stale floor (v ∷ vs) = nat_le v.stored.storage_time floor || is_stale v.stored.storage_time vs

-- a storage time isn't over the floor of its slot
abbrev pub is_old : Slots → Value → Bool
is_old slots v = nat_le v.stored.storage_time (slot_in slots (key_of v.stored.key)).floor

-- a storage time isn't over the floor of its slot, or of the appends
unfoldable pub is_too_old : Kinds → AskedKind → Bool
is_too_old kinds a =
    let k = kind_in kinds a.kind in
    list_any (is_old k.slots) (placed (values_of a))
    || is_stale k.append_floor (appended (values_of a))

-- the index of a value, where the slots are those afterwards, isn't below the most slots of a kind
abbrev pub is_beyond : ℕ → Slots → SlotKey → Bool
is_beyond most slots (Index i) = nat_le most i
is_beyond most slots End = nat_lt most (next_index slots)
is_beyond most slots _ = false

-- a value passes its kind's size or indices, or the kind then its number of slots
abbrev pub passes_limits : KindDef → Slots → List Value → Bool
passes_limits kind slots values =
    list_any (λ v. nat_lt kind.max_size (length v.stored.value)) values
    || list_any (λ v. is_beyond kind.max_count slots v.stored.key) values
    || nat_lt kind.max_count (len slots)

-- a kind passes its limits with the kinds as they are afterwards
unfoldable pub is_too_large : Config → Kinds → AskedKind → Bool
is_too_large config after a =
    let slots = (kind_in after a.kind).slots in
    option_map_or (λ kind. passes_limits kind slots (values_of a)) (kind_of config a.kind) false

-- why a Store is refused for what it asks of a record, in this order
unfoldable pub record_causes : Config → ℕ → ℕ → Kinds → StoreAsked → List Cause
record_causes config now resource kinds request =
    let after = kinds_after now kinds request.kinds in
    (UnknownExtension, request.strange)
    ∷ (UnknownKind, list_any (is_unknown config) request.kinds)
    ∷ (Forbidden, list_any (is_forbidden config resource) request.kinds)
    ∷ (GenerationCounterTooLow, list_any (asks_other_generation kinds) request.kinds)
    ∷ (DataTooOld, list_any (is_too_old kinds) request.kinds)
    ∷ (
      DataTooLarge,
      list_any (is_too_large config after) request.kinds || nat_lt MAX_WEIGHT (weight after),
    )
    ∷ []

-- why a Store is refused, in this order
abbrev pub store_causes : Config → ℕ → ℕ → Kinds → StoreAsked → List Cause
store_causes config now resource kinds request =
    sequence_causes config request.sequence ++ record_causes config now resource kinds request

-- the named kinds with their generation counters
unfoldable pub counters_in : Kinds → List AskedKind → List (ℕ × ℕ)
counters_in kinds asked = map (λ a. (a.kind, (kind_in kinds a.kind).generation)) asked

-- what a decision answers, and the record afterwards, none where it stays
pub record Outcome : Type 0 where
  pub verdict : StoreVerdict
  pub next : Option Record

-- a record after a decision: its turn rises by 1, and the answer is kept, of at most 64
unfoldable pub noted : Kept → Kinds → Record → Record
noted answer kinds x =
    record x { turn = x.turn + 1; kinds = kinds; kept = pushed_within MAX_KEPT x.kept answer }

-- a Store is accepted: the new counters are told
unfoldable pub accepted : ℕ → Record → NodeId → ℕ → StoreAsked → Outcome
accepted now x origin id request =
    let kinds = kinds_after now x.kinds request.kinds in
    let counters = counters_in kinds request.kinds in
    let answer : Kept = record { origin = origin; id = id; code = 0; counters = counters } in
    let acted = list_any puts request.kinds in
    record {
      verdict = record { code = 0; counters = counters; repeat = false; acted = acted };
      next = Some (noted answer kinds x);
    }

-- the counters that a refusal tells: the stored ones where others were asked for
abbrev pub told : Refusal → Kinds → List AskedKind → List (ℕ × ℕ)
told GenerationCounterTooLow kinds asked = counters_in kinds asked
told _ kinds asked = []

-- whether a refusal leaves no trace in the record: the asker's configuration is another
abbrev pub is_traceless : Refusal → Bool
is_traceless ConfigTooOld = true
is_traceless ConfigTooNew = true
is_traceless _ = false

-- a Store is refused: the kinds stay
unfoldable pub refused : Refusal → Record → NodeId → ℕ → StoreAsked → Outcome
refused cause x origin id request =
    let counters = told cause x.kinds request.kinds in
    let code = error_code cause in
    let answer : Kept = record { origin = origin; id = id; code = code; counters = counters } in
    record {
      verdict = record { code = code; counters = counters; repeat = false; acted = false };
      next = if is_traceless cause then None else Some (noted answer x.kinds x);
    }

-- a decision for the first time: refused for the first cause that holds, or else accepted
abbrev pub decided : Option Refusal → ℕ → Record → NodeId → ℕ → StoreAsked → Outcome
decided (Some cause) now x origin id request = refused cause x origin id request
decided None now x origin id request = accepted now x origin id request

-- an answer that is kept is given again, and the record stays
unfoldable pub repeated : Kept → Outcome
repeated kept = record {
  verdict = record { code = kept.code; counters = kept.counters; repeat = true; acted = false };
  next = None;
}

-- what is decided of a Store of this origin and transaction id for a resource with this record
unfoldable pub outcome_of : Config → ℕ → ℕ → Record → NodeId → ℕ → StoreAsked → Outcome
outcome_of config now resource x origin id request =
    let cause = first_cause (store_causes config now resource x.kinds request) in
    option_map_or
    repeated
    (kept_for x.kept origin.0 id)
    (decided cause now x origin id request)
