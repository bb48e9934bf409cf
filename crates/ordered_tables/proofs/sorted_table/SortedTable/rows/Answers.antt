use Rattle.std.proofs.Common.{ap, sym, ◌∙◌}
use Rattle.std.specs.Ordering.{nat_cmp}
use Rattle.std.specs.FinMap as map
use Rattle.ordered_tables.proofs.sorted_table.SortedTable.rows.Goals as goal

pub returns-clause-entries : goal.returns-clause-entries
returns-clause-entries g c =
    ap map.entries (sym c.self.view_is) ∙ map.entries-from_sorted nat_cmp c.self.inside.rows.items c.self.invariant
    ∙ sym c.as_slice.ensures.value
