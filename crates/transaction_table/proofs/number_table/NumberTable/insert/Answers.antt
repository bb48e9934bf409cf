use Rattle.std.proofs.Common.{ap, sym, ◌∙◌}
use Rattle.std.specs.FinMap as map
use Rattle.transaction_table.proofs.NumberMaps.{numbered_get, numbered_insert}
use Rattle.transaction_table.proofs.number_table.NumberTable.insert.Goals as goal

pub returns-clause-before : goal.returns-clause-before
returns-clause-before g c =
    c.in_ok-insert.ensures.old ∙ sym (numbered_get c.args.key c.self.inside.tree.entries c.self.invariant) ∙ ap (λ m. map.get m c.args.key) c.self.view_is

pub returns-clause-ok : goal.returns-clause-ok
returns-clause-ok g c =
    numbered_insert c.args.key c.args.value c.self.inside.tree.entries c.insert.new.self.entries c.self.invariant c.insert.ensures.ordered c.in_ok-insert.ensures.entries
    ∙ ap (λ m. map.insert m c.args.key c.args.value) c.self.view_is
