use Rattle.std.proofs.Common.{◌≡◌, length}
use Rattle.record_state.specs.Log.{all_undone}
use Rattle.record_state.proofs.kinds.Kinds.undo_all.Given as goal

abbrev pub invariant-loop-undo : goal.invariant-loop-undo
invariant-loop-undo l = all_undone l.log l.self ≡ all_undone l.initial.log l.fn.self

abbrev pub decreases-loop-undo : goal.decreases-loop-undo
decreases-loop-undo l = length l.log
