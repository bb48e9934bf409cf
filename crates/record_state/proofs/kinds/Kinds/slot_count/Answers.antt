use Rattle.record_state.proofs.Lookups.{count_none}
use Rattle.record_state.proofs.kinds.Kinds.slot_count.Goals as goal

pub returns-in-None : goal.returns-in-None
returns-in-None c = count_none c.args.self.now c.args.id c.in-None.ensures
