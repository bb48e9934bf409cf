use Rattle.std.proofs.Common.{ap, ◌++◌, ◌∙◌}
use Rattle.node_links.proofs.Framed.{framed}
use Rattle.node_links.proofs.frames.payload_frame.Goals as goal

pub returns : goal.returns
returns c = c.in_ok-extend.ensures.ok ∙ ap (λ t. t ++ c.args.message.now) c.in_ok-out.ensures ∙ framed c.args.sequence c.args.message.now
