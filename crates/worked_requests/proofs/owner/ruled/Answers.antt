use Rattle.std.proofs.Common.{ℕ, ◌+◌, sym, subst}
use Rattle.storage_model.specs.Records.{Map, record_in}
use Rattle.storage_model.specs.Laws.{IsWithin}
use Rattle.worked_requests.proofs.Counts.{counted_of, within_more, within_next}
use Rattle.worked_requests.proofs.owner.ruled.Goals as goal

pub rule_on-requires-clause-counted : goal.rule_on-requires-clause-counted
rule_on-requires-clause-counted c = counted_of c.args.rulings.now (record_in c.args.shelf.now c.args.q.now.resource.0) c.requires.few (c.requires.within c.args.q.now.resource.0)

pub returns : goal.returns
returns c =
    let q = c.args.q.now in
    subst (λ (s : Map). (r : ℕ) → IsWithin (c.args.rulings.now + 1) (record_in s r)) (sym c.in_ok-ruling.ensures.shelf)
    (within_more c.args.shelf.now c.args.config.now c.args.now c.args.rulings.now q.resource.0 q.origin q.id q.asked c.requires.sound c.requires.within)

pub returns-in_err-ruling : goal.returns-in_err-ruling
returns-in_err-ruling c =
    subst (λ (s : Map). (r : ℕ) → IsWithin (c.args.rulings.now + 1) (record_in s r)) (sym c.in_err-ruling.ensures.err)
    (λ r. within_next c.args.rulings.now (record_in c.args.shelf.now r) (c.requires.within r))
