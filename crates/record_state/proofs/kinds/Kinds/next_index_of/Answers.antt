use Rattle.record_state.proofs.Lookups.{next_none}
use Rattle.record_state.proofs.kinds.Kinds.next_index_of.Goals as goal

pub returns-in-None-clause-value : goal.returns-in-None-clause-value
returns-in-None-clause-value c = next_none c.args.self.now c.args.id c.in-None.ensures
