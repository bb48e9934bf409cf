use Rattle.std.proofs.Common.{ap, sym, ◌∙◌}
use Rattle.chord_tables.specs.Sides.{gathered}
use Rattle.chord_tables.specs.Tables.{ids}
use Rattle.chord_tables.proofs.Merging.{gathered_last}
use Rattle.chord_tables.proofs.nearest.Nearest.gather.Goals as goal

pub loop-last-preserved : goal.loop-last-preserved
loop-last-preserved c =
    let side = c.args.side in
    let me = c.args.me.0 in
    let before = c.in-Some.before.now in
    ap (gathered side me (ids before)) c.put.ensures
    ∙ sym (gathered_last side me before c.in-Some.last.now c.loop-last.self)
    ∙ ap (λ l. gathered side me (ids l) c.loop-last.self) (sym c.in-Some.ensures.cases.0)
    ∙ c.loop-last.invariant
