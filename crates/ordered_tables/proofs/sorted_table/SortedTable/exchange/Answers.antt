use Rattle.std.proofs.Common.{ap, sym, ◌∙◌}
use Rattle.std.specs.Prelude.{is_some}
use Rattle.std.specs.FinMap as map
use Rattle.ordered_tables.proofs.Places.{read_there, get_gap, written_rises, written_there}
use Rattle.ordered_tables.proofs.Trees.{if_there, if_none, or_there, or_none}
use Rattle.ordered_tables.proofs.sorted_table.SortedTable.exchange.Goals as goal

pub invariant_of-self : goal.invariant_of-self
invariant_of-self g c =
    written_rises c.self.inside.rows.items c.args.key c.in-Ok.place c.index_mut.result.now c.self.invariant c.in-Ok.ensures.0 c.in-Ok.ensures.1 c.index_mut.ensures.value c.swap.new.x

pub returns-in-Ok-clause-there : goal.returns-in-Ok-clause-there
returns-in-Ok-clause-there g c =
    ap is_some (read_there c.self.inside.rows.items c.args.key c.in-Ok.place c.index_mut.result.now c.self.invariant c.in-Ok.ensures.0 c.in-Ok.ensures.1 c.index_mut.ensures.value
    ∙ ap (λ m. map.get m c.args.key) c.self.view_is)

pub returns-in-Ok-clause-table : goal.returns-in-Ok-clause-table
returns-in-Ok-clause-table g c =
    written_there c.self.inside.rows.items c.args.key c.in-Ok.place c.index_mut.result.now c.self.invariant c.in-Ok.ensures.0 c.in-Ok.ensures.1 c.index_mut.ensures.value c.swap.new.x
    ∙ ap (map.insert (map.from_sorted c.self.inside.rows.items) c.args.key) c.swap.ensures.x_after
    ∙ ap (λ m. map.insert m c.args.key c.args.value.now) c.self.view_is
    ∙ if_there _ _ _ _ (read_there c.self.inside.rows.items c.args.key c.in-Ok.place c.index_mut.result.now c.self.invariant c.in-Ok.ensures.0 c.in-Ok.ensures.1 c.index_mut.ensures.value
    ∙ ap (λ m. map.get m c.args.key) c.self.view_is)

pub returns-in-Ok-clause-value : goal.returns-in-Ok-clause-value
returns-in-Ok-clause-value g c =
    c.swap.ensures.y_after
    ∙ or_there _ _ _ (read_there c.self.inside.rows.items c.args.key c.in-Ok.place c.index_mut.result.now c.self.invariant c.in-Ok.ensures.0 c.in-Ok.ensures.1 c.index_mut.ensures.value
    ∙ ap (λ m. map.get m c.args.key) c.self.view_is)

pub returns-in-Err-clause-there : goal.returns-in-Err-clause-there
returns-in-Err-clause-there g c =
    ap is_some (sym (get_gap c.self.inside.rows.items c.args.key c.in-Err.field-0 c.self.invariant c.in-Err.ensures.1 c.in-Err.ensures.2)
    ∙ ap (λ m. map.get m c.args.key) c.self.view_is)

pub returns-in-Err-clause-table : goal.returns-in-Err-clause-table
returns-in-Err-clause-table g c =
    if_none _ _ _ (sym (get_gap c.self.inside.rows.items c.args.key c.in-Err.field-0 c.self.invariant c.in-Err.ensures.1 c.in-Err.ensures.2)
    ∙ ap (λ m. map.get m c.args.key) c.self.view_is)

pub returns-in-Err-clause-value : goal.returns-in-Err-clause-value
returns-in-Err-clause-value g c =
    or_none _ _ (sym (get_gap c.self.inside.rows.items c.args.key c.in-Err.field-0 c.self.invariant c.in-Err.ensures.1 c.in-Err.ensures.2)
    ∙ ap (λ m. map.get m c.args.key) c.self.view_is)
