use Rattle.std.proofs.Common.{ap, fold, None, length, arith, subst, sym}
use Rattle.transaction_table.specs.Tables.{Txns, renewed}
use Rattle.node_model.specs.Clocks.{posts_again}
use Rattle.overlay_peer.specs.Kept.{IsKept}
use Rattle.overlay_peer.proofs.Keeping.{kept_clocked, kept_fewer}
use Rattle.overlay_peer.proofs.Queues.{all_fewer, outstanding_small}
use Rattle.overlay_peer.proofs.peer.Peer.clocked.Goals as goal

pub resend-requires-clause-few : goal.resend-requires-clause-few
resend-requires-clause-few c = omega (arith, ap length c.as_slice.ensures, c.in_ok-due.ensures.few, c.self.invariant.few)

pub resend-requires-clause-small : goal.resend-requires-clause-small
resend-requires-clause-small c = outstanding_small c.self.inside.table c.self.invariant.small

pub invariant_of-self-2 : goal.invariant_of-self-2
invariant_of-self-2 c =
    let i = c.self.inside in
    let fewer = all_fewer c.args.now c.as_slice-2.result.now i.table in
    subst (λ (t : Txns). IsKept c.resend.new.self i.tables i.shelf t) (sym c.renew.ensures)
    (kept_fewer c.resend.new.self i.tables i.shelf i.table (fold (renewed c.args.now None) i.table c.as_slice-2.result.now) fewer.few (fewer.small c.self.invariant.small)
    (kept_clocked (posts_again None i.table c.as_slice.result.now) i.node c.resend.new.self i.tables i.shelf i.table c.in_ok-frames.ensures.ok c.self.invariant))
