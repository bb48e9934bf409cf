use Rattle.std.proofs.Common.{◌≡◌, drop}
use Rattle.storage_model.specs.Requests.{appended}
use Rattle.storage_model.specs.Verdict.{is_stale}
use Rattle.kind_store.proofs.floors.any_stale.Given as goal

abbrev pub invariant-loop-value : goal.invariant-loop-value
invariant-loop-value l = is_stale l.floor (appended (drop l.value-index l.values)) ≡ is_stale l.initial.floor (appended l.values)
