use Rattle.std.proofs.Common.{ap, ◌∙◌}
use Rattle.node_model.specs.Links.{Links}
use Rattle.node_links.proofs.Again.{frames_alone, links_alone}
use Rattle.node_links.proofs.links.Links.resend.Goals as goal

pub returns-clause-frames : goal.returns-clause-frames
returns-clause-frames c =
    frames_alone c.args.self.now c.in_ok-links.links _ c.in_ok-frames.frames c.in_ok-links.ensures c.in_ok-frames.ensures.frames

pub returns-clause-ok : goal.returns-clause-ok
returns-clause-ok c =
    links_alone c.args.self.now c.in_ok-links.links _ c.swap.new.x c.self.inside.heard c.in_ok-links.ensures
    (c.swap.ensures.x_after ∙ ap (λ (l : Links). l.sent) (c.links.view_is ∙ c.in_ok-frames.ensures.links))
    (ap (λ (l : Links). l.heard) c.self.view_is)
