use Rattle.std.proofs.Common.{◌≡◌, drop}
use Rattle.storage_model.specs.Requests.{appended}
use Rattle.storage_model.specs.Puts.{append_floor_after}
use Rattle.record_state.proofs.puts.floor_after.Given as goal

abbrev pub invariant-loop-value : goal.invariant-loop-value
invariant-loop-value l = append_floor_after l.floor (appended (drop l.value-index l.values)) ≡ append_floor_after l.initial.floor (appended l.values)
