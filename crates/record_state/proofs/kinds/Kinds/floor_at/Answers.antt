use Rattle.record_state.proofs.Lookups.{floor_none}
use Rattle.record_state.proofs.kinds.Kinds.floor_at.Goals as goal

pub returns-in-None : goal.returns-in-None
returns-in-None c = floor_none c.args.self.now c.args.id c.args.key.now c.in-None.ensures
