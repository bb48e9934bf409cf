use Rattle.std.proofs.Common.{◌++◌, sym, subst, ◌∙◌}
use Rattle.std.proofs.lemmas.Result.{err_from_is_err_and, IfErr-weaker}
use Rattle.node_messages.specs.Signed.{words_of}
use Rattle.node_model.specs.Nodes.{cause_of}
use Rattle.run_model.specs.Worlds.{handled}
use Rattle.run_model.specs.Stops.{frames_in}
use Rattle.overlay_world.specs.Codes.{standing_of}
use Rattle.overlay_world.specs.Standings.{Standing, world_in}
use Rattle.overlay_world.specs.Sendings.{sent_by, Halts, IsNone, IsHeavy}
use Rattle.overlay_world.specs.Parts.{scene_of, IsSound, Does, Goes}
use Rattle.overlay_world.proofs.Airs.{on_ok_all}
use Rattle.overlay_world.proofs.Goings.{goes}
use Rattle.overlay_world.proofs.Frames.{adds_handled}
use Rattle.overlay_world.proofs.Flown.{handled_is, outputs_some, put_halts, heavy_halts}
use Rattle.overlay_world.proofs.Heard.{nobody_does, node_does}
use Rattle.overlay_world.proofs.world.World.give.Goals as goal

pub returns-in_err-outputs : goal.returns-in_err-outputs
returns-in_err-outputs g c =
    let p = err_from_is_err_and c.from_residual.result c.from_residual.ensures.1 in
    rw (p.1, p.2) (subst (λ (s : Standing). Halts (frames_in (handled (words_of g.G.Signer.certificate_of g.G.Signer.signature_of g.G.Signer.about_of g.G.Signer.verifies c.args.signer.now) c.args.number (cause_of c.args.input) (world_in s (g.A.Air.view c.args.air.now))).world) (IsHeavy c.args.number (world_in s (g.A.Air.view c.args.air.now))) (g.A.Air.view c.args.air.now) (g.A.Air.view c.args.air.now) c.in_err-outputs.field-0.0) c.self.view_is
    (heavy_halts c.args.number (world_in (standing_of c.self.inside.clock c.self.inside.config c.self.inside.names c.self.inside.actors c.self.inside.failed c.self.inside.fates) (g.A.Air.view c.args.air.now)) (handled (words_of g.G.Signer.certificate_of g.G.Signer.signature_of g.G.Signer.about_of g.G.Signer.verifies c.args.signer.now) c.args.number (cause_of c.args.input) (world_in (standing_of c.self.inside.clock c.self.inside.config c.self.inside.names c.self.inside.actors c.self.inside.failed c.self.inside.fates) (g.A.Air.view c.args.air.now))) (IsHeavy c.args.number (world_in (standing_of c.self.inside.clock c.self.inside.config c.self.inside.names c.self.inside.actors c.self.inside.failed c.self.inside.fates) (g.A.Air.view c.args.air.now))) (g.A.Air.view c.args.air.now) c.in_err-outputs.field-0.0 (subst (λ (s : Standing). IsSound (scene_of s (g.A.Air.view c.args.air.now) c.args.out.now)) (sym c.self.view_is) c.requires.sound).held (adds_handled (words_of g.G.Signer.certificate_of g.G.Signer.signature_of g.G.Signer.about_of g.G.Signer.verifies c.args.signer.now) c.args.number (cause_of c.args.input) (world_in (standing_of c.self.inside.clock c.self.inside.config c.self.inside.names c.self.inside.actors c.self.inside.failed c.self.inside.fates) (g.A.Air.view c.args.air.now))) (λ m h. h) c.in_err-outputs.ensures.unheard))

pub returns-in_default : goal.returns-in_default
returns-in_default g c =
    subst (λ (s : Standing). Does (handled (words_of g.G.Signer.certificate_of g.G.Signer.signature_of g.G.Signer.about_of g.G.Signer.verifies c.args.signer.now) c.args.number (cause_of c.args.input) (world_in s (g.A.Air.view c.args.air.now))) (scene_of s (g.A.Air.view c.args.air.now) c.args.out.now) (scene_of (record (standing_of c.self.inside.clock c.self.inside.config c.self.inside.names c.self.inside.actors c.self.inside.failed c.self.inside.fates) { actors = c.act.new.actors }) (g.A.Air.view c.args.air.now) c.args.out.now)) c.self.view_is
    (nobody_does (words_of g.G.Signer.certificate_of g.G.Signer.signature_of g.G.Signer.about_of g.G.Signer.verifies c.args.signer.now) c.args.number (cause_of c.args.input) (standing_of c.self.inside.clock c.self.inside.config c.self.inside.names c.self.inside.actors c.self.inside.failed c.self.inside.fates) (g.A.Air.view c.args.air.now) c.args.out.now (subst (λ (s : Standing). IsSound (scene_of s (g.A.Air.view c.args.air.now) c.args.out.now)) (sym c.self.view_is) c.requires.sound) c.act.new.actors c.in_ok-outputs.ensures.actors (sym c.in_default.is ∙ c.in_ok-outputs.ensures.outputs))

pub put_out-requires-clause-some : goal.put_out-requires-clause-some
put_out-requires-clause-some g c = outputs_some (words_of g.G.Signer.certificate_of g.G.Signer.signature_of g.G.Signer.about_of g.G.Signer.verifies c.args.signer.now) c.args.number (cause_of c.args.input) (world_in (standing_of c.self.inside.clock c.self.inside.config c.self.inside.names c.self.inside.actors c.self.inside.failed c.self.inside.fates) (g.A.Air.view c.args.air.now)) c.in-Some.outputs (sym c.in-Some.is ∙ c.in_ok-outputs.ensures.outputs)

pub returns : goal.returns
returns g c =
    subst (λ (s : Standing). Goes (handled (words_of g.G.Signer.certificate_of g.G.Signer.signature_of g.G.Signer.about_of g.G.Signer.verifies c.args.signer.now) c.args.number (cause_of c.args.input) (world_in s (g.A.Air.view c.args.air.now))) (IsHeavy c.args.number (world_in s (g.A.Air.view c.args.air.now))) (scene_of s (g.A.Air.view c.args.air.now) c.args.out.now) (scene_of (record (standing_of c.self.inside.clock c.self.inside.config c.self.inside.names c.self.inside.actors c.self.inside.failed c.self.inside.fates) { actors = c.act.new.actors; fates = c.put_out.new.fates }) (g.A.Air.view c.put_out.new.air) c.put_out.new.out) c.put_out.result) c.self.view_is
    (goes (handled (words_of g.G.Signer.certificate_of g.G.Signer.signature_of g.G.Signer.about_of g.G.Signer.verifies c.args.signer.now) c.args.number (cause_of c.args.input) (world_in (standing_of c.self.inside.clock c.self.inside.config c.self.inside.names c.self.inside.actors c.self.inside.failed c.self.inside.fates) (g.A.Air.view c.args.air.now))) (IsHeavy c.args.number (world_in (standing_of c.self.inside.clock c.self.inside.config c.self.inside.names c.self.inside.actors c.self.inside.failed c.self.inside.fates) (g.A.Air.view c.args.air.now))) (scene_of (standing_of c.self.inside.clock c.self.inside.config c.self.inside.names c.self.inside.actors c.self.inside.failed c.self.inside.fates) (g.A.Air.view c.args.air.now) c.args.out.now) (scene_of (record (standing_of c.self.inside.clock c.self.inside.config c.self.inside.names c.self.inside.actors c.self.inside.failed c.self.inside.fates) { actors = c.act.new.actors; fates = c.put_out.new.fates }) (g.A.Air.view c.put_out.new.air) c.put_out.new.out) c.put_out.result
    (on_ok_all c.put_out.result c.put_out.ensures.fates c.put_out.ensures.sent c.put_out.ensures.told c.put_out.ensures.room (λ added sent told room. node_does (words_of g.G.Signer.certificate_of g.G.Signer.signature_of g.G.Signer.about_of g.G.Signer.verifies c.args.signer.now) c.args.number (cause_of c.args.input) (standing_of c.self.inside.clock c.self.inside.config c.self.inside.names c.self.inside.actors c.self.inside.failed c.self.inside.fates) (g.A.Air.view c.args.air.now) c.args.out.now (subst (λ (s : Standing). IsSound (scene_of s (g.A.Air.view c.args.air.now) c.args.out.now)) (sym c.self.view_is) c.requires.sound) c.act.new.actors c.in_ok-outputs.ensures.actors c.in-Some.outputs c.put_out.new.fates c.put_out.new.out (g.A.Air.view c.put_out.new.air) (sym c.in-Some.is ∙ c.in_ok-outputs.ensures.outputs) added sent told room))
    (IfErr-weaker c.put_out.result (Halts ((g.A.Air.view c.args.air.now).sent ++ sent_by c.self.inside.names c.args.number c.in-Some.outputs.frames) IsNone (g.A.Air.view c.args.air.now) (g.A.Air.view c.put_out.new.air)) (Halts (frames_in (handled (words_of g.G.Signer.certificate_of g.G.Signer.signature_of g.G.Signer.about_of g.G.Signer.verifies c.args.signer.now) c.args.number (cause_of c.args.input) (world_in (standing_of c.self.inside.clock c.self.inside.config c.self.inside.names c.self.inside.actors c.self.inside.failed c.self.inside.fates) (g.A.Air.view c.args.air.now))).world) (IsHeavy c.args.number (world_in (standing_of c.self.inside.clock c.self.inside.config c.self.inside.names c.self.inside.actors c.self.inside.failed c.self.inside.fates) (g.A.Air.view c.args.air.now))) (g.A.Air.view c.args.air.now) (g.A.Air.view c.put_out.new.air))
    (λ e h. put_halts c.args.number (world_in (standing_of c.self.inside.clock c.self.inside.config c.self.inside.names c.self.inside.actors c.self.inside.failed c.self.inside.fates) (g.A.Air.view c.args.air.now)) c.act.new.actors c.in-Some.outputs (handled (words_of g.G.Signer.certificate_of g.G.Signer.signature_of g.G.Signer.about_of g.G.Signer.verifies c.args.signer.now) c.args.number (cause_of c.args.input) (world_in (standing_of c.self.inside.clock c.self.inside.config c.self.inside.names c.self.inside.actors c.self.inside.failed c.self.inside.fates) (g.A.Air.view c.args.air.now))) (IsHeavy c.args.number (world_in (standing_of c.self.inside.clock c.self.inside.config c.self.inside.names c.self.inside.actors c.self.inside.failed c.self.inside.fates) (g.A.Air.view c.args.air.now))) (g.A.Air.view c.args.air.now) (g.A.Air.view c.put_out.new.air) e (subst (λ (s : Standing). IsSound (scene_of s (g.A.Air.view c.args.air.now) c.args.out.now)) (sym c.self.view_is) c.requires.sound).held
    (handled_is (words_of g.G.Signer.certificate_of g.G.Signer.signature_of g.G.Signer.about_of g.G.Signer.verifies c.args.signer.now) c.args.number (cause_of c.args.input) (world_in (standing_of c.self.inside.clock c.self.inside.config c.self.inside.names c.self.inside.actors c.self.inside.failed c.self.inside.fates) (g.A.Air.view c.args.air.now)) c.act.new.actors c.in-Some.outputs (sym c.in-Some.is ∙ c.in_ok-outputs.ensures.outputs) c.in_ok-outputs.ensures.actors) h)
    c.put_out.ensures.stopped))
