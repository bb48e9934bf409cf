use Rattle.std.specs.Option.{option_map, option_to_list}
use Rattle.node_links.specs.Sendings.{post_of}
use Rattle.overlay_client.proofs.Sounds.{heard_sound}
use Rattle.overlay_client.proofs.client.Client.sends.Goals as goal

pub invariant_of-self-2 : goal.invariant_of-self-2
invariant_of-self-2 c =
    heard_sound c.args.from c.args.sequence (option_to_list (option_map post_of c.args.sending))
    c.self.inside.node c.hear.new.self c.self.inside.table c.self.inside.questions
    c.self.invariant c.in_ok-frames.ensures.ok
