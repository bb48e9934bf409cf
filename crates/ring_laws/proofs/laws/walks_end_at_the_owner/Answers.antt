use Rattle.ring_laws.proofs.Walks.{walk, walk_one}
use Rattle.ring_laws.proofs.laws.walks_end_at_the_owner.Goals as goal

pub returns-clause-walk : goal.returns-clause-walk
returns-clause-walk c = walk

pub returns-clause-one : goal.returns-clause-one
returns-clause-one c = walk_one
