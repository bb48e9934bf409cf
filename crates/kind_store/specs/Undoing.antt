-- How a decision is taken back.
use Rattle.std.specs.Prelude.{◌≡◌, ℕ, ◌-◌, ◌≤◌, false, IfSome, Option, Some, None}
use Rattle.std.specs.Option.{option_map_or}
use Rattle.std.specs.FinMap.{get, insert, remove}
use Rattle.reload_ids.specs.declared.ResourceId.{ResourceId}
use Rattle.storage_model.specs.declared.limits.TheConstants.{MAX_WEIGHT}
use Rattle.storage_model.specs.Records.{Record, Map, weight}
use Rattle.record_state.specs.Log.{kinds_undone}
use Rattle.record_state.specs.Rings.{taken_back}
use Rattle.kind_store.specs.declared.undo.RecordUndo.{RecordUndo}
use Rattle.kind_store.specs.declared.undo.RecordUndo.TheVariants.{Nothing, Noted, Joined}
use Rattle.kind_store.specs.declared.undo.Change.{Change}
use Rattle.kind_store.specs.declared.undo.Change.TheVariants.{There, Added}
use Rattle.kind_store.specs.declared.undo.Undo.{Undo}

-- what takes the change of a record that was there back
abbrev pub there_at : ResourceId → RecordUndo → Undo
there_at resource undo = record { resource = resource; change = There undo }

-- what takes a new record away
abbrev pub added_at : ResourceId → Undo
added_at resource = record { resource = resource; change = Added }

-- a record once its last change is taken back
unfoldable pub record_undone : RecordUndo → Record → Record
record_undone Nothing x = x
record_undone (Noted kinds oldest) x = record {
  turn = x.turn - 1;
  joined = x.joined;
  kinds = kinds_undone kinds x.kinds;
  kept = taken_back oldest x.kept;
}
record_undone Joined x = record {
  turn = x.turn - 1;
  joined = false;
  kinds = x.kinds;
  kept = x.kept;
}

-- it takes a change of a record back
pub record IsRecordUndo (undo : RecordUndo) (after before : Record) : Type 0 where
  pub back : record_undone undo after ≡ before
  pub light : weight before.kinds ≤ MAX_WEIGHT

-- records once what was changed at a resource is taken back
unfoldable pub change_undone : Change → ℕ → Map → Map
change_undone (There undo) resource records =
    option_map_or (λ x. insert records resource (record_undone undo x))
    (get records resource) records
change_undone Added resource records = remove records resource

-- it takes a decision back
pub record IsUndo (undo : Undo) (after before : Map) : Type 0 where
  pub back : change_undone undo.change undo.resource.0 after ≡ before
  pub light : IfSome (get before undo.resource.0) (λ x. weight x.kinds ≤ MAX_WEIGHT)

-- it takes a decision back that may have changed nothing
abbrev pub TakesBack : Option Undo → Map → Map → Type 0
TakesBack None after before = after ≡ before
TakesBack (Some undo) after before = IsUndo undo after before
