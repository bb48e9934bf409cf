use Rattle.std.proofs.Common.{ap, sym, subst, ◌∙◌}
use Rattle.std.specs.Option.{option_copied_mut}
use Rattle.transaction_table.specs.Outboxes.{IsAlone}
use Rattle.transaction_table.proofs.NumberMaps.{numbered_of, found}
use Rattle.transaction_table.proofs.Outboxes.{lost_there}
use Rattle.transaction_table.proofs.number_table.«NumberTable+Outbox».pop_last.Goals as goal

pub returns : goal.returns
returns c =
    let after = c.get_mut.follows.lender c.pop_last.new.self in
    let writes = c.get_mut.follows.holds c.pop_last.new.self in
    lost_there c.args.key _ _ c.self.inside.tree.entries after.entries _ c.self.invariant writes.4 c.self.view_is c.in-Some.ensures.value writes.0 c.pop_last.result c.pop_last.ensures

pub returns-in_default : goal.returns-in_default
returns-in_default c = (
  subst IsAlone (sym (found c.args.key _ c.self.inside.tree.entries _ c.self.invariant c.self.view_is (ap option_copied_mut (sym c.in_default.is) ∙ c.get_mut.ensures.value))) tt,
  ap (λ t. numbered_of t.entries) c.get_mut.follows.holds-at-none ∙ c.self.view_is,
)
