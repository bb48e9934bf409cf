use Rattle.replica_sets.proofs.Changes.{nothing_queued, same_queued}
use Rattle.replica_sets.proofs.laws.no_change_queues_nothing.Goals as goal

pub returns-clause-grown : goal.returns-clause-grown
returns-clause-grown c = nothing_queued

pub returns-clause-same : goal.returns-clause-same
returns-clause-same c = same_queued
