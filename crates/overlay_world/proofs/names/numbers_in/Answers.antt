use Rattle.std.proofs.Common.{ap, sym, ◌∙◌}
use Rattle.overlay_world.specs.Indexes.{with_number}
use Rattle.overlay_world.proofs.Folds.{folded, folded_last, folded_none}
use Rattle.overlay_world.proofs.Indexes.{numbers_folded}
use Rattle.overlay_world.proofs.names.numbers_in.Goals as goal

pub loop-last-preserved : goal.loop-last-preserved
loop-last-preserved c =
    let before = c.in-Some.before.now in
    ap (folded with_number before) c.in_ok-insert.ensures.ok
    ∙ sym (folded_last with_number before c.in-Some.last.now c.loop-last.numbers)
    ∙ ap (λ l. folded with_number l c.loop-last.numbers) (sym c.in-Some.ensures.cases.0)
    ∙ c.loop-last.invariant

pub returns : goal.returns
returns c =
    folded_none with_number c.loop-last.left.now c.loop-last.numbers c.in_default.ensures.cases
    ∙ c.loop-last.invariant
    ∙ ap (folded with_number c.args.names.now) c.new-numbers.ensures
    ∙ numbers_folded c.args.names.now
