use Rattle.ring_laws.proofs.Owners.{owner_there, owner_one, owns_own}
use Rattle.ring_laws.proofs.laws.one_owner.Goals as goal

pub returns-clause-some : goal.returns-clause-some
returns-clause-some c = owner_there

pub returns-clause-one : goal.returns-clause-one
returns-clause-one c = owner_one

pub returns-clause-owns : goal.returns-clause-owns
returns-clause-owns c = owns_own
