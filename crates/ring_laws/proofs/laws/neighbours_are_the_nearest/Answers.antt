use Rattle.ring_laws.proofs.Nearest.{predecessors-nearest, successors-nearest, exact-reordered}
use Rattle.ring_laws.proofs.laws.neighbours_are_the_nearest.Goals as goal

pub returns-clause-predecessors : goal.returns-clause-predecessors
returns-clause-predecessors c = predecessors-nearest

pub returns-clause-successors : goal.returns-clause-successors
returns-clause-successors c = successors-nearest

pub returns-clause-any_order : goal.returns-clause-any_order
returns-clause-any_order c = exact-reordered
