use Rattle.std.proofs.Common.{ap, sym, ◌∙◌}
use Rattle.std.specs.FinMap as map
use Rattle.ordered_tables.proofs.Places.{read_there, get_gap}
use Rattle.ordered_tables.proofs.sorted_table.SortedTable.get.Goals as goal

pub returns-in-Ok : goal.returns-in-Ok
returns-in-Ok g c =
    read_there c.self.inside.rows.items c.args.key c.in-Ok.place c.index.result.now c.self.invariant c.in-Ok.ensures.0 c.in-Ok.ensures.1 c.index.ensures
    ∙ ap (λ m. map.get m c.args.key) c.self.view_is

pub returns-in-Err : goal.returns-in-Err
returns-in-Err g c =
    sym (get_gap c.self.inside.rows.items c.args.key c.in-Err.field-0 c.self.invariant c.in-Err.ensures.1 c.in-Err.ensures.2)
    ∙ ap (λ m. map.get m c.args.key) c.self.view_is
