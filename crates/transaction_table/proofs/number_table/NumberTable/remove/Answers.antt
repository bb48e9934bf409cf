use Rattle.std.proofs.Common.{ap, sym, ◌∙◌}
use Rattle.std.specs.FinMap as map
use Rattle.transaction_table.proofs.NumberMaps.{numbered_get, numbered_remove}
use Rattle.transaction_table.proofs.number_table.NumberTable.remove.Goals as goal

pub returns-clause-value : goal.returns-clause-value
returns-clause-value g c = c.remove.ensures.value ∙ sym (numbered_get c.args.key c.self.inside.tree.entries c.self.invariant) ∙ ap (λ m. map.get m c.args.key) c.self.view_is

pub returns-clause-table : goal.returns-clause-table
returns-clause-table g c = numbered_remove c.args.key c.self.inside.tree.entries c.remove.new.self.entries c.self.invariant c.remove.ensures.ordered c.remove.ensures.entries ∙ ap (λ m. map.remove m c.args.key) c.self.view_is
