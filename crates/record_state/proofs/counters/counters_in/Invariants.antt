use Rattle.std.proofs.Common.{◌≡◌, take}
use Rattle.storage_model.specs.Verdict.{counters_in}
use Rattle.record_state.proofs.counters.counters_in.Given as goal

abbrev pub invariant-loop-kind : goal.invariant-loop-kind
invariant-loop-kind l = l.counters ≡ counters_in l.kinds (take l.kind-index l.asked)
