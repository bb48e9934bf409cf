use Rattle.ring_laws.proofs.Merging.{enough-merged, again-merged}
use Rattle.ring_laws.proofs.Joining.{all-merged}
use Rattle.ring_laws.proofs.laws.merging_what_is_enough.Goals as goal

pub returns-clause-enough : goal.returns-clause-enough
returns-clause-enough c = enough-merged

pub returns-clause-again : goal.returns-clause-again
returns-clause-again c = again-merged

pub returns-clause-all : goal.returns-clause-all
returns-clause-all c = all-merged
