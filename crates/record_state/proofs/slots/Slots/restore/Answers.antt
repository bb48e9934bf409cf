use Rattle.std.proofs.Common.{ap, sym, ◌∙◌}
use Rattle.record_state.specs.Undo.{slot_restored}
use Rattle.record_state.proofs.slots.Slots.restore.Goals as goal

pub returns-in-Some : goal.returns-in-Some
unfolding slot_restored
returns-in-Some c = c.exchange.ensures.slots ∙ ap (slot_restored c.args.self.now c.args.key.now) (sym c.in-Some.is)
