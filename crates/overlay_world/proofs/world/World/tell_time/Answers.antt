use Rattle.std.proofs.lemmas.Result.{err_from_is_err_and}
use Rattle.node_messages.specs.Signed.{words_of}
use Rattle.overlay_world.specs.Parts.{scene_of}
use Rattle.overlay_world.proofs.Timed.{told_none, next_told, telling_halts}
use Rattle.overlay_world.proofs.world.World.tell_time.Goals as goal

pub nodes-init : goal.nodes-init
nodes-init g c = told_none (words_of g.G.Signer.certificate_of g.G.Signer.signature_of g.G.Signer.about_of g.G.Signer.verifies c.args.signer.now) (scene_of c.args.self.now (g.A.Air.view c.args.air.now) c.args.out.now) c.requires.sound

pub returns-in_err-give : goal.returns-in_err-give
returns-in_err-give g c =
    let p = err_from_is_err_and c.from_residual.result c.from_residual.ensures.1 in
    rw (p.1, p.2) (telling_halts (words_of g.G.Signer.certificate_of g.G.Signer.signature_of g.G.Signer.about_of g.G.Signer.verifies c.args.signer.now) c.args.numbers.now c.nodes.number-index 0 (scene_of c.args.self.now (g.A.Air.view c.args.air.now) c.args.out.now) (scene_of c.nodes.self (g.A.Air.view c.nodes.air) c.nodes.out) (g.A.Air.view c.give.new.air) c.in_err-give.field-0.0 c.nodes-test.true c.nodes.invariant c.in_err-give.ensures)

pub nodes-preserved : goal.nodes-preserved
nodes-preserved g c =
    next_told (words_of g.G.Signer.certificate_of g.G.Signer.signature_of g.G.Signer.about_of g.G.Signer.verifies c.args.signer.now) c.args.numbers.now c.nodes.number-index 0 (scene_of c.args.self.now (g.A.Air.view c.args.air.now) c.args.out.now) (scene_of c.nodes.self (g.A.Air.view c.nodes.air) c.nodes.out) (scene_of c.give.new.self (g.A.Air.view c.give.new.air) c.give.new.out) c.nodes-test.true c.nodes.invariant c.in_ok-give.ensures
