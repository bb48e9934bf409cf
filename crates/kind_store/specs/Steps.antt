-- What is made of a record's kinds step by step.
use Rattle.std.specs.Prelude.{ℕ, ◌<◌, ◌^◌, ◌||◌, Bool, false, List, [], ◌∷◌, ◌++◌, Option, Some, None, fold, unwrap_or, nat_lt, if◌then◌else◌}
use Rattle.std.specs.List.{list_any}
use Rattle.std.specs.FinMap.{insert}
use Rattle.data_models.specs.declared.config.Config.{Config}
use Rattle.data_models.specs.Stored.{key_of}
use Rattle.storage_model.specs.declared.limits.TheConstants.{MAX_WEIGHT, MAX_KEPT}
use Rattle.storage_model.specs.declared.request.Value.{Value}
use Rattle.storage_model.specs.declared.request.StoreAsked.{StoreAsked}
use Rattle.storage_model.specs.declared.record.Kept.{Kept}
use Rattle.storage_model.specs.declared.verdict.StoreVerdict.{StoreVerdict}
use Rattle.reload_base.specs.Lists.{pushed_within}
use Rattle.reload_ids.specs.declared.NodeId.{NodeId}
use Rattle.storage_model.specs.declared.refusal.Refusal.{Refusal}
use Rattle.storage_model.specs.declared.refusal.Refusal.TheVariants.{Forbidden, GenerationCounterTooLow, DataTooLarge, DataTooOld, UnknownKind, UnknownExtension}
use Rattle.storage_model.specs.Records.{Kinds, Record, kind_in, weight}
use Rattle.storage_model.specs.Refusals.{Cause, first_cause, sequence_causes}
use Rattle.storage_model.specs.Requests.{puts, is_end}
use Rattle.storage_model.specs.Puts.{ValuesAt, slot_of}
use Rattle.storage_model.specs.Verdict.{is_unknown, is_forbidden, asks_other_generation, is_too_old, is_too_large, counters_in}

-- a turn and generation counters that can still rise
pub record IsCounted (x : Record) : Type 0 where
  pub turn : x.turn < 2 ^ 63
  pub generations : (kind : ℕ) → (kind_in x.kinds kind).generation < 2 ^ 63

-- why a Store is refused for what a record has already, in this order
unfoldable pub early_causes : Config → ℕ → Kinds → StoreAsked → List Cause
early_causes config resource kinds request =
    (UnknownExtension, request.strange)
    ∷ (UnknownKind, list_any (is_unknown config) request.kinds)
    ∷ (Forbidden, list_any (is_forbidden config resource) request.kinds)
    ∷ (GenerationCounterTooLow, list_any (asks_other_generation kinds) request.kinds)
    ∷ (DataTooOld, list_any (is_too_old kinds) request.kinds)
    ∷ []

-- kinds pass a limit of their own or that of a record
unfoldable pub is_large : Config → Kinds → StoreAsked → Bool
is_large config after request =
    list_any (is_too_large config after) request.kinds || nat_lt MAX_WEIGHT (weight after)

-- the first cause but the limits
unfoldable pub cause_before : Config → ℕ → Kinds → StoreAsked → Option Refusal
cause_before config resource kinds request =
    first_cause
    (sequence_causes config request.sequence ++ early_causes config resource kinds request)

-- the first cause: one of those before, or else that a limit is passed
abbrev pub cause_of : Option Refusal → Bool → Option Refusal
cause_of (Some cause) large = Some cause
cause_of None large = if large then Some DataTooLarge else None

-- an answer that is kept
abbrev pub answer : NodeId → ℕ → ℕ → List (ℕ × ℕ) → Kept
answer origin id code counters =
    record { origin = origin; id = id; code = code; counters = counters }

-- the answer to an accepted Store, where the kinds are these afterwards
abbrev pub accepted_answer : Kinds → NodeId → ℕ → StoreAsked → Kept
accepted_answer after origin id request = answer origin id 0 (counters_in after request.kinds)

-- its verdict, none where a limit is passed
unfoldable pub settled : Config → Kinds → StoreAsked → Option StoreVerdict
settled config after request =
    if is_large config after request then None
    else Some (record {
      code = 0;
      counters = counters_in after request.kinds;
      repeat = false;
      acted = list_any puts request.kinds;
    })

-- the answers that are kept then
unfoldable pub settled_kept : Config → Kinds → NodeId → ℕ → StoreAsked → List Kept → List Kept
settled_kept config after origin id request kept =
    if is_large config after request then kept
    else pushed_within MAX_KEPT kept (accepted_answer after origin id request)
