use Rattle.std.proofs.Common.{◌≡◌, ap, sym, ◌∙◌}
use Rattle.std.specs.FinMap.{insert}
use Rattle.overlay_world.specs.Indexes.{with_node}
use Rattle.overlay_world.proofs.Folds.{folded, folded_last, folded_none}
use Rattle.overlay_world.proofs.Indexes.{nodes_folded}
use Rattle.overlay_world.proofs.names.nodes_in.Goals as goal

pub loop-last-preserved : goal.loop-last-preserved
loop-last-preserved c =
    let before = c.in-Some.before.now in
    let last = c.in-Some.last.now in
    let key : c.from.result ≡ last.number = cc in
    ap (folded with_node before) c.in_ok-insert.ensures.ok
    ∙ ap (λ k. folded with_node before (insert c.loop-last.nodes k last.node)) key
    ∙ sym (folded_last with_node before last c.loop-last.nodes)
    ∙ ap (λ l. folded with_node l c.loop-last.nodes) (sym c.in-Some.ensures.cases.0)
    ∙ c.loop-last.invariant

pub returns : goal.returns
returns c =
    folded_none with_node c.loop-last.left.now c.loop-last.nodes c.in_default.ensures.cases
    ∙ c.loop-last.invariant
    ∙ ap (folded with_node c.args.names.now) c.new-nodes.ensures
    ∙ nodes_folded c.args.names.now
