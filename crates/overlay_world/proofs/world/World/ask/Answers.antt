use Rattle.std.specs.Prelude.{OnOk}
use Rattle.std.proofs.Common.{sym, subst, ◌≡◌, [], ◌∷◌, ◌++◌}
use Rattle.node_messages.specs.Signed.{words_of}
use Rattle.node_model.specs.declared.command.Command.{Command}
use Rattle.node_model.specs.Nodes.{Commanded}
use Rattle.run_model.specs.declared.moves.Move.TheVariants.{Ask}
use Rattle.run_model.specs.Worlds.{handled}
use Rattle.run_model.specs.Moves.{aimed, told}
use Rattle.run_model.specs.Stops.{IsNodeFull}
use Rattle.run_text.specs.Lines.{happened_text}
use Rattle.overlay_world.specs.Sendings.{IsHeavy}
use Rattle.overlay_world.specs.Standings.{Standing, world_in}
use Rattle.overlay_world.specs.Parts.{scene_of, Goes}
use Rattle.overlay_world.proofs.Goings.{goes_as, refusal_goes}
use Rattle.overlay_world.proofs.Told.{told_ok, told_err, ask_halts}
use Rattle.overlay_world.proofs.world.World.ask.Goals as goal

pub returns-in-Ok : goal.returns-in-Ok
returns-in-Ok g c =
    let commanded = subst (λ (x : Command). Goes (handled (words_of g.G.Signer.certificate_of g.G.Signer.signature_of g.G.Signer.about_of g.G.Signer.verifies c.args.signer.now) c.args.client (Commanded x) (world_in c.args.self.now (g.A.Air.view c.args.air.now))) (IsHeavy c.args.client (world_in c.args.self.now (g.A.Air.view c.args.air.now))) (scene_of c.args.self.now (g.A.Air.view c.args.air.now) c.args.out.now) (scene_of c.give.new.self (g.A.Air.view c.give.new.air) c.give.new.out) c.give.result) c.aimed.ensures c.give.ensures in
    goes_as (handled (words_of g.G.Signer.certificate_of g.G.Signer.signature_of g.G.Signer.about_of g.G.Signer.verifies c.args.signer.now) c.args.client (Commanded (aimed c.args.command c.in-Ok.id)) (world_in c.args.self.now (g.A.Air.view c.args.air.now))) (told (words_of g.G.Signer.certificate_of g.G.Signer.signature_of g.G.Signer.about_of g.G.Signer.verifies c.args.signer.now) c.args.line c.args.client c.args.peer (aimed c.args.command) (world_in c.args.self.now (g.A.Air.view c.args.air.now))) (IsHeavy c.args.client (world_in c.args.self.now (g.A.Air.view c.args.air.now))) (IsNodeFull (words_of g.G.Signer.certificate_of g.G.Signer.signature_of g.G.Signer.about_of g.G.Signer.verifies c.args.signer.now) (Ask c.args.client c.args.peer c.args.command) (world_in c.args.self.now (g.A.Air.view c.args.air.now))) (scene_of c.args.self.now (g.A.Air.view c.args.air.now) c.args.out.now) (scene_of c.give.new.self (g.A.Air.view c.give.new.air) c.give.new.out) c.give.result
    (sym (told_ok (words_of g.G.Signer.certificate_of g.G.Signer.signature_of g.G.Signer.about_of g.G.Signer.verifies c.args.signer.now) c.args.line c.args.client c.args.peer (aimed c.args.command) (world_in c.args.self.now (g.A.Air.view c.args.air.now)) c.in-Ok.id (sym (c.in-Ok.ensures (g.A.Air.view c.args.air.now)))))
    (λ e h. ask_halts (words_of g.G.Signer.certificate_of g.G.Signer.signature_of g.G.Signer.about_of g.G.Signer.verifies c.args.signer.now) c.args.line c.args.client c.args.peer c.args.command (world_in c.args.self.now (g.A.Air.view c.args.air.now)) c.in-Ok.id (g.A.Air.view c.args.air.now) (g.A.Air.view c.give.new.air) e (sym (c.in-Ok.ensures (g.A.Air.view c.args.air.now))) h) commanded

pub returns-in-Err : goal.returns-in-Err
returns-in-Err g c =
    refusal_goes (told (words_of g.G.Signer.certificate_of g.G.Signer.signature_of g.G.Signer.about_of g.G.Signer.verifies c.args.signer.now) c.args.line c.args.client c.args.peer (aimed c.args.command) (world_in c.args.self.now (g.A.Air.view c.args.air.now))) (IsNodeFull (words_of g.G.Signer.certificate_of g.G.Signer.signature_of g.G.Signer.about_of g.G.Signer.verifies c.args.signer.now) (Ask c.args.client c.args.peer c.args.command) (world_in c.args.self.now (g.A.Air.view c.args.air.now))) c.args.self.now (g.A.Air.view c.args.air.now) c.args.out.now c.refused.new.out c.in-Err.why c.refused.result
    (told_err (words_of g.G.Signer.certificate_of g.G.Signer.signature_of g.G.Signer.about_of g.G.Signer.verifies c.args.signer.now) c.args.line c.args.client c.args.peer (aimed c.args.command) (world_in c.args.self.now (g.A.Air.view c.args.air.now)) c.in-Err.why (sym (c.in-Err.ensures (g.A.Air.view c.args.air.now)))) c.requires.sound (subst (λ (s : Standing). OnOk c.refused.result (c.refused.new.out ≡ c.args.out.now ++ happened_text s.names (c.in-Err.why ∷ []))) c.self.view_is c.refused.ensures.told) c.refused.ensures.err
