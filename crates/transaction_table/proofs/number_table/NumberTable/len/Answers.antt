use Rattle.std.proofs.Common.{ap, sym, ◌∙◌}
use Rattle.std.specs.FinMap as map
use Rattle.transaction_table.proofs.NumberMaps.{numbered_len}
use Rattle.transaction_table.proofs.number_table.NumberTable.len.Goals as goal

pub returns-clause-value : goal.returns-clause-value
returns-clause-value g c = c.len.ensures.len ∙ sym (numbered_len c.self.inside.tree.entries c.self.invariant) ∙ ap map.len c.self.view_is
