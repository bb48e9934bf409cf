use Rattle.overlay_peer.proofs.Keeping.{kept_first}
use Rattle.overlay_peer.proofs.peer.Peer.with.Goals as goal

pub invariant_of-result : goal.invariant_of-result
invariant_of-result c = kept_first c.args.node c.args.tables _ _ c.requires c.new.ensures c.new-2.ensures.outboxes c.new-2.ensures.issued
