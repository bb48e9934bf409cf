use Rattle.std.proofs.Common.{ap, sym, ◌∙◌}
use Rattle.std.specs.Prelude.{Some}
use Rattle.std.proofs.lemmas.List.Elements.{All-pop}
use Rattle.chord_tables.specs.Tables.{ids}
use Rattle.overlay_world.specs.Declarations.{IsDeclared, with_declared}
use Rattle.overlay_world.proofs.Folds.{folded, folded_last, folded_none}
use Rattle.overlay_world.proofs.Nodes.{actors_folded}
use Rattle.overlay_world.proofs.actors.Actors.among.Goals as goal

pub add-requires : goal.add-requires
add-requires c =
    (All-pop IsDeclared c.loop-last.left.now c.in-Some.before.now (Some c.in-Some.last.now) c.in-Some.ensures.cases.0 c.loop-last.invariant.declared).1

pub loop-last-preserved : goal.loop-last-preserved
loop-last-preserved c =
    let step = with_declared c.args.config.now (ids c.args.peers.now) in
    let before = c.in-Some.before.now in
    let last = c.in-Some.last.now in
    record {
      declared = (All-pop IsDeclared c.loop-last.left.now before (Some last) c.in-Some.ensures.cases.0 c.loop-last.invariant.declared).0;
      so_far =
          ap (folded step before) c.in_ok-add.ensures
          ∙ sym (folded_last step before last c.loop-last.actors)
          ∙ ap (λ l. folded step l c.loop-last.actors) (sym c.in-Some.ensures.cases.0)
          ∙ c.loop-last.invariant.so_far;
    }

pub returns : goal.returns
returns c =
    let step = with_declared c.args.config.now (ids c.args.peers.now) in
    folded_none step c.loop-last.left.now c.loop-last.actors c.in_default.ensures.cases
    ∙ c.loop-last.invariant.so_far
    ∙ ap (folded step c.args.names.now) c.new-actors.ensures
    ∙ actors_folded c.args.config.now (ids c.args.peers.now) c.args.names.now
