use Rattle.std.proofs.Common.{ap, sym, subst, ◌∙◌}
use Rattle.std.specs.Ordering.{nat_cmp}
use Rattle.std.specs.Cmp.{nat_cmp_total}
use Rattle.std.specs.FinMap as map
use Rattle.ordered_tables.specs.Places.{Rises}
use Rattle.ordered_tables.proofs.Places.{read_there, get_gap, removed_rises, removed_there}
use Rattle.ordered_tables.proofs.Finite.{remove-absent}
use Rattle.ordered_tables.proofs.sorted_table.SortedTable.remove.Goals as goal

pub invariant_of-self : goal.invariant_of-self
invariant_of-self g c =
    subst Rises (sym c.remove-value.ensures.items)
    (removed_rises c.self.inside.rows.items c.args.key c.in-Ok.place c.remove-value.result c.self.invariant c.in-Ok.ensures.0 c.in-Ok.ensures.1 c.remove-value.ensures.value)

pub returns-in-Ok-clause-value : goal.returns-in-Ok-clause-value
returns-in-Ok-clause-value g c =
    read_there c.self.inside.rows.items c.args.key c.in-Ok.place c.remove-value.result c.self.invariant c.in-Ok.ensures.0 c.in-Ok.ensures.1 c.remove-value.ensures.value
    ∙ ap (λ m. map.get m c.args.key) c.self.view_is

pub returns-in-Ok-clause-table : goal.returns-in-Ok-clause-table
returns-in-Ok-clause-table g c =
    ap (λ es. map.from_sorted {R = nat_cmp} es) c.remove-value.ensures.items
    ∙ removed_there c.self.inside.rows.items c.args.key c.in-Ok.place c.remove-value.result c.self.invariant c.in-Ok.ensures.0 c.in-Ok.ensures.1 c.remove-value.ensures.value
    ∙ ap (λ m. map.remove m c.args.key) c.self.view_is

pub returns-in-Err-clause-value : goal.returns-in-Err-clause-value
returns-in-Err-clause-value g c =
    sym (get_gap c.self.inside.rows.items c.args.key c.in-Err.field-0 c.self.invariant c.in-Err.ensures.1 c.in-Err.ensures.2)
    ∙ ap (λ m. map.get m c.args.key) c.self.view_is

pub returns-in-Err-clause-table : goal.returns-in-Err-clause-table
returns-in-Err-clause-table g c =
    sym (remove-absent nat_cmp_total map.nat_cmp-IsAntisymmetric c.args.self.now c.args.key
    (ap (λ m. map.get m c.args.key) (sym c.self.view_is)
    ∙ get_gap c.self.inside.rows.items c.args.key c.in-Err.field-0 c.self.invariant c.in-Err.ensures.1 c.in-Err.ensures.2))
