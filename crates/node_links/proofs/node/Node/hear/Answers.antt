use Rattle.std.proofs.Common.{◌<◌, sym, ap, subst, ◌∙◌, arith}
use Rattle.node_model.specs.declared.limits.TheConstants.{MAX_LOAD}
use Rattle.node_model.specs.Nodes.{Node, work, node_after}
use Rattle.node_links.proofs.Counted.{few_heard, heard}
use Rattle.node_links.specs.Kept.{node_of}
use Rattle.node_links.proofs.node.Node.hear.Goals as goal

pub invariant_of-self-2 : goal.invariant_of-self-2
invariant_of-self-2 c = record {
  named = c.self.invariant.named;
  numbered = c.self.invariant.numbered;
  overlay_is = c.self.invariant.overlay_is;
  light = omega (arith, subst (λ (n : Node). work n < MAX_LOAD) (sym c.self.view_is) c.requires.light, few_heard c.in_ok-frames.frames c.len.result _ _ _ c.in_ok-frames.ensures c.len.ensures);
}

pub returns-clause-ok : goal.returns-clause-ok
returns-clause-ok c =
    heard (node_of c.self.inside.number c.self.inside.about c.self.inside.config c.self.inside.links c.self.inside.ids c.self.inside.inputs c.self.inside.frames) c.args.from c.args.sequence _ c.receiver_of-to.result c.note.new.self c.in_ok-frames.frames c.len.result c.receiver_of-to.ensures c.in_ok-note.ensures.ok c.in_ok-frames.ensures c.len.ensures
    ∙ ap (node_after c.args.from c.args.sequence _) c.self.view_is
