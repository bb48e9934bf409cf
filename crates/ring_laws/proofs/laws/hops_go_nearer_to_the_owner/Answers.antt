use Rattle.ring_laws.proofs.Hops.{owner-here, other-nearer}
use Rattle.ring_laws.proofs.laws.hops_go_nearer_to_the_owner.Goals as goal

pub returns-clause-owner : goal.returns-clause-owner
returns-clause-owner c = owner-here

pub returns-clause-other : goal.returns-clause-other
returns-clause-other c = other-nearer
