use Rattle.std.proofs.Common.{ap, sym, ◌∙◌}
use Rattle.std.specs.Option.{option_copied_mut}
use Rattle.transaction_table.specs.Outboxes.{next_in, promoted_head, put_some}
use Rattle.transaction_table.proofs.NumberMaps.{numbered_of, found}
use Rattle.transaction_table.proofs.Outboxes.{promoted_there}
use Rattle.transaction_table.proofs.number_table.«NumberTable+Outbox».promote.Goals as goal

pub returns-clause-head : goal.returns-clause-head
returns-clause-head c =
    c.promote.ensures.head ∙ ap (promoted_head c.args.now) (sym (found c.args.key _ c.self.inside.tree.entries _ c.self.invariant c.self.view_is c.in-Some.ensures.value))

pub returns-clause-table : goal.returns-clause-table
returns-clause-table c =
    let after = c.get_mut.follows.lender c.promote.new.self in
    let writes = c.get_mut.follows.holds c.promote.new.self in
    promoted_there c.args.now c.args.key _ _ c.self.inside.tree.entries after.entries _ c.self.invariant writes.4 c.self.view_is c.in-Some.ensures.value writes.0 c.promote.ensures.outbox

pub returns-in_default-clause-head : goal.returns-in_default-clause-head
returns-in_default-clause-head c =
    ap (promoted_head c.args.now) (sym (found c.args.key _ c.self.inside.tree.entries _ c.self.invariant c.self.view_is (ap option_copied_mut (sym c.in_default.is) ∙ c.get_mut.ensures.value)))

pub returns-in_default-clause-table : goal.returns-in_default-clause-table
returns-in_default-clause-table c =
    ap (λ t. numbered_of t.entries) c.get_mut.follows.holds-at-none ∙ c.self.view_is
    ∙ ap (λ o. put_some c.args.key c.args.self.now (next_in c.args.now o)) (sym (found c.args.key _ c.self.inside.tree.entries _ c.self.invariant c.self.view_is (ap option_copied_mut (sym c.in_default.is) ∙ c.get_mut.ensures.value)))
