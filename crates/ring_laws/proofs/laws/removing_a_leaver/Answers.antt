use Rattle.ring_laws.proofs.Lists.{members-without}
use Rattle.ring_laws.proofs.Leaving.{successor-left, predecessor-left, other-left}
use Rattle.ring_laws.proofs.laws.removing_a_leaver.Goals as goal

pub returns-clause-members : goal.returns-clause-members
returns-clause-members c = λ members l d. members-without l members d

pub returns-clause-successor : goal.returns-clause-successor
returns-clause-successor c = successor-left

pub returns-clause-predecessor : goal.returns-clause-predecessor
returns-clause-predecessor c = predecessor-left

pub returns-clause-other : goal.returns-clause-other
returns-clause-other c = other-left
