use Rattle.std.proofs.Common.{ap, sym, ◌∙◌}
use Rattle.std.specs.FinMap as map
use Rattle.transaction_table.proofs.NumberMaps.{numbered_get}
use Rattle.transaction_table.proofs.number_table.NumberTable.get.Goals as goal

pub returns : goal.returns
returns g c = c.get.ensures.value ∙ sym (numbered_get c.args.key c.self.inside.tree.entries c.self.invariant) ∙ ap (λ m. map.get m c.args.key) c.self.view_is
