use Rattle.std.proofs.Common.{◌<◌, ◌≤◌, length, sym, ap, subst, ◌∙◌, arith}
use Rattle.node_model.specs.declared.limits.TheConstants.{MAX_LOAD}
use Rattle.node_model.specs.Nodes.{Node, work}
use Rattle.node_model.specs.Clocks.{node_clocked}
use Rattle.node_links.proofs.Again.{few_resent, clocked}
use Rattle.node_links.specs.Kept.{node_of}
use Rattle.node_links.proofs.node.Node.resend.Goals as goal

pub invariant_of-self-2 : goal.invariant_of-self-2
invariant_of-self-2 c = record {
  named = c.self.invariant.named;
  numbered = c.self.invariant.numbered;
  overlay_is = c.self.invariant.overlay_is;
  light = omega (
    arith,
    subst (λ (n : Node). work n < MAX_LOAD) (sym c.self.view_is) c.requires.light,
    subst (λ (n : Node). length c.args.spots.now ≤ n.ids) (sym c.self.view_is) c.requires.few,
    few_resent c.args.limit c.args.table.now _ c.args.spots.now c.in_ok-frames.frames c.len.result c.in_ok-frames.ensures.frames c.len.ensures,
  );
}

pub returns-clause-ok : goal.returns-clause-ok
returns-clause-ok c =
    clocked (node_of c.self.inside.number c.self.inside.about c.self.inside.config c.self.inside.links c.self.inside.ids c.self.inside.inputs c.self.inside.frames) _ c.resend.new.self c.in_ok-frames.frames c.len.result c.in_ok-frames.ensures.ok c.in_ok-frames.ensures.frames c.len.ensures
    ∙ ap (node_clocked _) c.self.view_is
