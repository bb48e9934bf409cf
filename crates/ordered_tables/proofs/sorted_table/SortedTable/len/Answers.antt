use Rattle.std.proofs.Common.{◌≡◌, length, ap, sym, ◌∙◌, arith}
use Rattle.std.specs.FinMap as map
use Rattle.ordered_tables.proofs.Places.{len_rows}
use Rattle.ordered_tables.proofs.sorted_table.SortedTable.len.Goals as goal

pub returns-clause-value : goal.returns-clause-value
returns-clause-value g c =
    let all : c.len.result ≡ length c.self.inside.rows.items = omega (arith, c.len.ensures, c.self.inside.rows.ok.0) in
    all ∙ sym (len_rows c.self.inside.rows.items c.self.invariant) ∙ ap map.len c.self.view_is

pub returns-clause-small : goal.returns-clause-small
returns-clause-small g c = omega (arith, c.len.ensures, c.self.inside.rows.ok.1, c.self.inside.rows.small)
