use Rattle.std.proofs.Common.{ap, sym, ◌∙◌}
use Rattle.std.specs.Option.{option_copied_mut}
use Rattle.std.proofs.lemmas.Result.{on_ok_weaker}
use Rattle.transaction_table.specs.Outboxes.{behind}
use Rattle.transaction_table.proofs.NumberMaps.{numbered_of, changed_there, changed_none, same_there}
use Rattle.transaction_table.proofs.Outboxes.{on_refusal}
use Rattle.transaction_table.proofs.number_table.«NumberTable+Outbox».push.Goals as goal

pub returns-clause-ok : goal.returns-clause-ok
returns-clause-ok c =
    let after = c.get_mut.follows.lender c.push.new.self in
    let writes = c.get_mut.follows.holds c.push.new.self in
    on_ok_weaker c.push.result (λ h. changed_there (behind c.args.message) c.args.key _ _ c.self.inside.tree.entries after.entries _ c.self.invariant writes.4 c.self.view_is c.in-Some.ensures.value writes.0 h) c.push.ensures.ok

pub returns-clause-err : goal.returns-clause-err
returns-clause-err c =
    let after = c.get_mut.follows.lender c.push.new.self in
    let writes = c.get_mut.follows.holds c.push.new.self in
    on_refusal c.push.result (λ h. same_there c.args.key _ _ c.self.inside.tree.entries after.entries _ c.self.invariant writes.4 c.self.view_is c.in-Some.ensures.value writes.0 h) c.push.ensures.err

pub returns-in_default-clause-ok : goal.returns-in_default-clause-ok
returns-in_default-clause-ok c =
    changed_none (behind c.args.message) c.args.key c.self.inside.tree.entries _ _ c.self.invariant c.self.view_is (ap option_copied_mut (sym c.in_default.is) ∙ c.get_mut.ensures.value) (ap (λ t. numbered_of t.entries) c.get_mut.follows.holds-at-none)
