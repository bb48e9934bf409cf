use Rattle.std.proofs.Common.{rules, ◌≡◌, subst, arith}
use Rattle.link_framing.specs.Streams.{IsMissing, wanted}
use Rattle.link_framing.proofs.Missing.{missing}
use Rattle.link_framing.proofs.front.wanted_by.Goals as goal

pub returns-clause-missing : goal.returns-clause-missing
returns-clause-missing c =
    let value : wanted c.args.held.now ≡ c.saturating_sub.result = search rules in
    subst (IsMissing c.args.held.now) value (missing c.args.held.now (λ i. omega (arith, c.type_inv.held i)))
