use Rattle.std.specs.Option.{option_map, option_to_list}
use Rattle.node_links.specs.Sendings.{post_of}
use Rattle.overlay_peer.proofs.Keeping.{kept_after}
use Rattle.overlay_peer.proofs.peer.Peer.send.Goals as goal

pub invariant_of-self-2 : goal.invariant_of-self-2
invariant_of-self-2 c =
    kept_after c.args.from c.args.sequence (option_to_list (option_map post_of c.args.sending)) c.self.inside.node c.hear.new.self c.self.inside.tables c.self.inside.shelf c.self.inside.table c.in_ok-frames.ensures.ok c.self.invariant
