use Rattle.std.proofs.Common.{◌≡◌, take}
use Rattle.std.specs.List.{flat_map}
use Rattle.replica_sets.specs.Refills.{refilled_to}
use Rattle.replica_sets.proofs.refill.Given as goal

abbrev pub invariant-loop-mirror : goal.invariant-loop-mirror
invariant-loop-mirror l =
    l.queued ≡ flat_map (refilled_to l.before l.after l.held) (take l.mirror-index l.mirror-items)
