use Rattle.std.proofs.Common.{◌≡◌, ℕ, ◌≤◌, List, length, sym, subst, arith}
use Rattle.security_block.specs.Claims.{who_claims}
use Rattle.security_block.specs.StandIn.{certificate_for}
use Rattle.security_block.proofs.StandInExact.{about_by-is}
use Rattle.security_block.proofs.stand_in.look_at.Goals as goal

pub returns-clause-found : goal.returns-clause-found
returns-clause-found c =
    let claim = c.in-Some.claim in
    let certificate = c.args.certificate.now in
    subst (λ (user : List ℕ). ((1 ≤ length user) × (length user ≤ 64)) × (certificate ≡ certificate_for (record { peer = claim.peer; node = claim.node; user = user }))) (sym c.in_ok-user.ensures)
    (about_by-is certificate (who_claims claim) (λ i. omega (arith, c.type_inv.certificate i)) (sym c.in-Some.ensures))
