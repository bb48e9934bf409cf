-- The resources that were written.
use Rattle.std.specs.Prelude.{ℕ, ◌==◌, Bool, not, List, map, filter}
use Rattle.std.specs.FinMap.{entries}
use Rattle.reload_ids.specs.declared.ResourceId.{ResourceId}
use Rattle.storage_model.specs.Records.{Record, Map}

abbrev pub was_written : ℕ × Record → Bool
was_written e = not (e.1.turn == 0)

abbrev pub resource_of : ℕ × Record → ResourceId
resource_of e = record { 0 = e.0 }

-- those whose turn isn't 0, rising
unfoldable pub written : Map → List ResourceId
written m = map resource_of (filter was_written (entries m))
