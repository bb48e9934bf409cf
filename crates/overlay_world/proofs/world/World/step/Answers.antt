use Rattle.node_messages.specs.Signed.{words_of}
use Rattle.run_model.specs.declared.moves.Move.TheVariants.{Clock, Deliver, Lose, Drain, Ask}
use Rattle.run_model.specs.Moves.{lost}
use Rattle.run_model.specs.Stops.{IsNodeFull}
use Rattle.overlay_world.specs.Standings.{world_in}
use Rattle.overlay_world.specs.Sendings.{IsNone}
use Rattle.overlay_world.specs.Parts.{scene_of}
use Rattle.overlay_world.proofs.Goings.{goes_wider, steps}
use Rattle.overlay_world.proofs.world.World.step.Goals as goal

pub returns-in-Clock : goal.returns-in-Clock
returns-in-Clock g c =
    rw c.in-Clock.is (steps (words_of g.G.Signer.certificate_of g.G.Signer.signature_of g.G.Signer.about_of g.G.Signer.verifies c.args.signer.now) c.args.line (Clock c.in-Clock.ms) (scene_of c.args.self.now (g.A.Air.view c.args.air.now) c.args.out.now) (scene_of c.clock.new.self (g.A.Air.view c.clock.new.air) c.clock.new.out) c.clock.result c.clock.ensures)

pub returns-in-Deliver : goal.returns-in-Deliver
returns-in-Deliver g c =
    rw c.in-Deliver.is (steps (words_of g.G.Signer.certificate_of g.G.Signer.signature_of g.G.Signer.about_of g.G.Signer.verifies c.args.signer.now) c.args.line (Deliver c.in-Deliver.k) (scene_of c.args.self.now (g.A.Air.view c.args.air.now) c.args.out.now) (scene_of c.deliver.new.self (g.A.Air.view c.deliver.new.air) c.deliver.new.out) c.deliver.result c.deliver.ensures)

pub returns-in-Lose : goal.returns-in-Lose
returns-in-Lose g c =
    let after = scene_of c.lose.new.self (g.A.Air.view c.args.air.now) c.lose.new.out in
    let move = Lose c.in-Lose.k in
    rw c.in-Lose.is (steps (words_of g.G.Signer.certificate_of g.G.Signer.signature_of g.G.Signer.about_of g.G.Signer.verifies c.args.signer.now) c.args.line move (scene_of c.args.self.now (g.A.Air.view c.args.air.now) c.args.out.now) after c.lose.result
    (goes_wider (lost c.args.line c.in-Lose.k (world_in c.args.self.now (g.A.Air.view c.args.air.now))) IsNone (IsNodeFull (words_of g.G.Signer.certificate_of g.G.Signer.signature_of g.G.Signer.about_of g.G.Signer.verifies c.args.signer.now) move (world_in c.args.self.now (g.A.Air.view c.args.air.now))) (scene_of c.args.self.now (g.A.Air.view c.args.air.now) c.args.out.now) after c.lose.result (λ n none. absurd none) (c.lose.ensures (g.A.Air.view c.args.air.now) c.requires.sound)))

pub returns-in-Drain : goal.returns-in-Drain
returns-in-Drain g c =
    rw c.in-Drain.is (steps (words_of g.G.Signer.certificate_of g.G.Signer.signature_of g.G.Signer.about_of g.G.Signer.verifies c.args.signer.now) c.args.line (Drain c.in-Drain.n) (scene_of c.args.self.now (g.A.Air.view c.args.air.now) c.args.out.now) (scene_of c.drain.new.self (g.A.Air.view c.drain.new.air) c.drain.new.out) c.drain.result c.drain.ensures)

pub returns-in-Ask : goal.returns-in-Ask
returns-in-Ask g c =
    rw c.in-Ask.is (steps (words_of g.G.Signer.certificate_of g.G.Signer.signature_of g.G.Signer.about_of g.G.Signer.verifies c.args.signer.now) c.args.line (Ask c.in-Ask.client c.in-Ask.peer c.in-Ask.command) (scene_of c.args.self.now (g.A.Air.view c.args.air.now) c.args.out.now) (scene_of c.ask.new.self (g.A.Air.view c.ask.new.air) c.ask.new.out) c.ask.result c.ask.ensures)
