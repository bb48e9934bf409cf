use Rattle.replica_sets.proofs.Changes.{all_queued}
use Rattle.replica_sets.proofs.laws.first_mirrors_get_all.Goals as goal

pub returns : goal.returns
returns c = all_queued
