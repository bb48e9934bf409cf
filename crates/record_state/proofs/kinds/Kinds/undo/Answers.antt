use Rattle.std.proofs.Common.{◌∙◌}
use Rattle.record_state.proofs.Undos.{removed}
use Rattle.record_state.proofs.kinds.Kinds.undo.Goals as goal

pub returns : goal.returns
returns c = c.remove.ensures ∙ removed c.args.self.now c.args.undo.kind c.args.undo.counters c.args.undo.key c.args.undo.before c.in-None.is
