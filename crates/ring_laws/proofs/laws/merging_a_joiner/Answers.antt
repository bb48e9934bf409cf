use Rattle.ring_laws.proofs.Joining.{joiner-merged, joiner-heard, joiner-handed, joiner-handed_over}
use Rattle.ring_laws.proofs.laws.merging_a_joiner.Goals as goal

pub returns-clause-member : goal.returns-clause-member
returns-clause-member c = joiner-merged

pub returns-clause-among_others : goal.returns-clause-among_others
returns-clause-among_others c = joiner-heard

pub returns-clause-joiner : goal.returns-clause-joiner
returns-clause-joiner c = joiner-handed

pub returns-clause-handed_over : goal.returns-clause-handed_over
returns-clause-handed_over c = joiner-handed_over
