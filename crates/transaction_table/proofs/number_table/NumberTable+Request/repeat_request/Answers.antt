use Rattle.std.proofs.Common.{ap, sym, ◌∙◌}
use Rattle.std.specs.Option.{option_copied_mut}
use Rattle.transaction_table.specs.Outboxes.{again_request}
use Rattle.transaction_table.proofs.NumberMaps.{numbered_of, changed_there, changed_none}
use Rattle.transaction_table.proofs.number_table.«NumberTable+Request».repeat_request.Goals as goal

pub returns : goal.returns
returns c =
    let after = c.get_mut.follows.lender c.repeat.new.self in
    let writes = c.get_mut.follows.holds c.repeat.new.self in
    changed_there (again_request c.args.now) c.args.key _ _ c.self.inside.tree.entries after.entries _ c.self.invariant writes.4 c.self.view_is c.in-Some.ensures.value writes.0 c.repeat.ensures

pub returns-in_default : goal.returns-in_default
returns-in_default c =
    changed_none (again_request c.args.now) c.args.key c.self.inside.tree.entries _ _ c.self.invariant c.self.view_is (ap option_copied_mut (sym c.in_default.is) ∙ c.get_mut.ensures.value) (ap (λ t. numbered_of t.entries) c.get_mut.follows.holds-at-none)
