use Rattle.std.proofs.Common.{◌≡◌, ◌++◌, take}
use Rattle.replica_sets.specs.Refills.{to_mirror}
use Rattle.replica_sets.proofs.queue.queue.Given as goal

abbrev pub invariant-loop-resource : goal.invariant-loop-resource
invariant-loop-resource l =
    l.queued ≡ l.fn.queued ++ to_mirror l.fn.mirror (take l.resource-index l.resources)
