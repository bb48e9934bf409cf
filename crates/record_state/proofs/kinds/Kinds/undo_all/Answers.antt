use Rattle.std.proofs.Common.{ap, sym, ◌∙◌}
use Rattle.record_state.specs.Log.{all_undone}
use Rattle.record_state.proofs.Undos.{all_undone-push}
use Rattle.record_state.proofs.kinds.Kinds.undo_all.Goals as goal

pub loop-undo-preserved : goal.loop-undo-preserved
loop-undo-preserved c = ap (all_undone c.pop.new.self) c.undo.ensures ∙ sym (all_undone-push c.pop.new.self c.in-Some.undo c.loop-undo.self) ∙ ap (λ us. all_undone us c.loop-undo.self) (sym c.in-Some.ensures) ∙ c.loop-undo.invariant

pub returns : goal.returns
unfolding all_undone
returns c = ap (λ us. all_undone us c.loop-undo.self) (sym c.in_default.ensures.0) ∙ c.loop-undo.invariant
