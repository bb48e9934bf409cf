use Rattle.std.proofs.Common.{◌≡◌, ◌++◌, sym, subst, ◌∙◌}
use Rattle.std.specs.Prelude.{Some}
use Rattle.std.proofs.lemmas.Result.{err_from_is_err_and, IfErr-weaker}
use Rattle.node_messages.specs.Signed.{words_of}
use Rattle.node_model.specs.Nodes.{Framed}
use Rattle.run_model.specs.Moves.{flown_at}
use Rattle.run_model.specs.Stops.{frames_in}
use Rattle.overlay_world.specs.Codes.{standing_of}
use Rattle.overlay_world.specs.Standings.{Standing, world_in}
use Rattle.overlay_world.specs.Sendings.{sent_by, Halts, IsNone, IsFullAt}
use Rattle.overlay_world.specs.Parts.{scene_of, IsSound, Does, Goes}
use Rattle.overlay_world.proofs.Airs.{on_ok_all}
use Rattle.overlay_world.proofs.Goings.{goes}
use Rattle.overlay_world.proofs.Standings.{held_within}
use Rattle.overlay_world.proofs.Flown.{outputs_of, actors_after, outputs_some, nobody}
use Rattle.overlay_world.proofs.Heard.{unheard, unnamed, heavy, heard, heard_halts}
use Rattle.overlay_world.proofs.world.World.hear.Goals as goal

pub returns-then-not-is_hearing : goal.returns-then-not-is_hearing
returns-then-not-is_hearing g c =
    subst (λ (s : Standing). Does (flown_at (words_of g.G.Signer.certificate_of g.G.Signer.signature_of g.G.Signer.about_of g.G.Signer.verifies c.args.signer.now) c.args.at (world_in s (g.A.Air.view c.args.air.now))) (scene_of s (g.A.Air.view c.args.air.now) c.args.out.now) (scene_of (record (standing_of c.self.inside.clock c.self.inside.config c.self.inside.names c.self.inside.actors c.self.inside.failed c.self.inside.fates) { fates = c.lost.new.self }) (g.A.Air.view c.args.air.now) c.args.out.now)) c.self.view_is
    (unheard (words_of g.G.Signer.certificate_of g.G.Signer.signature_of g.G.Signer.about_of g.G.Signer.verifies c.args.signer.now) c.args.at (standing_of c.self.inside.clock c.self.inside.config c.self.inside.names c.self.inside.actors c.self.inside.failed c.self.inside.fates) (g.A.Air.view c.args.air.now) c.args.out.now (subst (λ (s : Standing). IsSound (scene_of s (g.A.Air.view c.args.air.now) c.args.out.now)) (sym c.self.view_is) c.requires.sound) c.args.frame.now c.requires.there c.lost.new.self (sym c.is_hearing.ensures ∙ c.if-not-is_hearing.true) c.lost.ensures)

pub returns-in_default : goal.returns-in_default
returns-in_default g c =
    subst (λ (s : Standing). Does (flown_at (words_of g.G.Signer.certificate_of g.G.Signer.signature_of g.G.Signer.about_of g.G.Signer.verifies c.args.signer.now) c.args.at (world_in s (g.A.Air.view c.args.air.now))) (scene_of s (g.A.Air.view c.args.air.now) c.args.out.now) (scene_of s (g.A.Air.view c.args.air.now) c.args.out.now)) c.self.view_is
    (unnamed (words_of g.G.Signer.certificate_of g.G.Signer.signature_of g.G.Signer.about_of g.G.Signer.verifies c.args.signer.now) c.args.at (standing_of c.self.inside.clock c.self.inside.config c.self.inside.names c.self.inside.actors c.self.inside.failed c.self.inside.fates) (g.A.Air.view c.args.air.now) c.args.out.now (subst (λ (s : Standing). IsSound (scene_of s (g.A.Air.view c.args.air.now) c.args.out.now)) (sym c.self.view_is) c.requires.sound) c.args.frame.now c.requires.there (sym c.is_hearing.ensures ∙ c.if-not-is_hearing.false) (sym c.node_of.ensures ∙ c.in_default.is))

pub returns-in_err-outputs : goal.returns-in_err-outputs
returns-in_err-outputs g c =
    let p = err_from_is_err_and c.from_residual.result c.from_residual.ensures.1 in
    rw (p.1, p.2) (subst (λ (s : Standing). Halts (frames_in (flown_at (words_of g.G.Signer.certificate_of g.G.Signer.signature_of g.G.Signer.about_of g.G.Signer.verifies c.args.signer.now) c.args.at (world_in s (g.A.Air.view c.args.air.now))).world) (IsFullAt c.args.at (world_in s (g.A.Air.view c.args.air.now))) (g.A.Air.view c.args.air.now) (g.A.Air.view c.args.air.now) c.in_err-outputs.field-0.0) c.self.view_is
    (heavy (words_of g.G.Signer.certificate_of g.G.Signer.signature_of g.G.Signer.about_of g.G.Signer.verifies c.args.signer.now) c.args.at (standing_of c.self.inside.clock c.self.inside.config c.self.inside.names c.self.inside.actors c.self.inside.failed c.self.inside.fates) (g.A.Air.view c.args.air.now) c.args.out.now (subst (λ (s : Standing). IsSound (scene_of s (g.A.Air.view c.args.air.now) c.args.out.now)) (sym c.self.view_is) c.requires.sound) c.args.frame.now c.requires.there (sym c.is_hearing.ensures ∙ c.if-not-is_hearing.false) c.in_err-outputs.field-0.0 c.in_err-outputs.ensures.unheard))

pub delivered-requires : goal.delivered-requires
delivered-requires g c = held_within (standing_of c.self.inside.clock c.self.inside.config c.self.inside.names c.self.inside.actors c.self.inside.failed c.self.inside.fates) (g.A.Air.view c.args.air.now) c.args.at c.args.frame.now (subst (λ (s : Standing). IsSound (scene_of s (g.A.Air.view c.args.air.now) c.args.out.now)) (sym c.self.view_is) c.requires.sound).held c.requires.there

pub lost-requires : goal.lost-requires
lost-requires g c = held_within (standing_of c.self.inside.clock c.self.inside.config c.self.inside.names c.self.inside.actors c.self.inside.failed c.self.inside.fates) (g.A.Air.view c.args.air.now) c.args.at c.args.frame.now (subst (λ (s : Standing). IsSound (scene_of s (g.A.Air.view c.args.air.now) c.args.out.now)) (sym c.self.view_is) c.requires.sound).held c.requires.there

pub put_out-requires-clause-some : goal.put_out-requires-clause-some
put_out-requires-clause-some g c = outputs_some (words_of g.G.Signer.certificate_of g.G.Signer.signature_of g.G.Signer.about_of g.G.Signer.verifies c.args.signer.now) c.args.frame.now.to (Framed c.in-Some.from c.args.frame.now.bytes) (world_in (standing_of c.self.inside.clock c.self.inside.config c.self.inside.names c.self.inside.actors c.self.inside.failed c.self.inside.fates) (g.A.Air.view c.args.air.now)) c.in-Some-outputs.outputs (subst (λ b. Some c.in-Some-outputs.outputs ≡ outputs_of (words_of g.G.Signer.certificate_of g.G.Signer.signature_of g.G.Signer.about_of g.G.Signer.verifies c.args.signer.now) c.args.frame.now.to (Framed c.in-Some.from b) (world_in (standing_of c.self.inside.clock c.self.inside.config c.self.inside.names c.self.inside.actors c.self.inside.failed c.self.inside.fates) (g.A.Air.view c.args.air.now))) c.as_slice.ensures (sym c.in-Some-outputs.is ∙ c.in_ok-outputs.ensures.outputs))

pub returns-in_default-outputs : goal.returns-in_default-outputs
returns-in_default-outputs g c =
    absurd (nobody (words_of g.G.Signer.certificate_of g.G.Signer.signature_of g.G.Signer.about_of g.G.Signer.verifies c.args.signer.now) c.args.frame.now.to (Framed c.in-Some.from c.as_slice.result.now) (world_in (standing_of c.self.inside.clock c.self.inside.config c.self.inside.names c.self.inside.actors c.self.inside.failed c.self.inside.fates) (g.A.Air.view c.args.air.now)) (sym c.in_default-outputs.is ∙ c.in_ok-outputs.ensures.outputs) (sym c.is_hearing.ensures ∙ c.if-not-is_hearing.false))

pub returns : goal.returns
returns g c =
    subst (λ (s : Standing). Goes (flown_at (words_of g.G.Signer.certificate_of g.G.Signer.signature_of g.G.Signer.about_of g.G.Signer.verifies c.args.signer.now) c.args.at (world_in s (g.A.Air.view c.args.air.now))) (IsFullAt c.args.at (world_in s (g.A.Air.view c.args.air.now))) (scene_of s (g.A.Air.view c.args.air.now) c.args.out.now) (scene_of (record (standing_of c.self.inside.clock c.self.inside.config c.self.inside.names c.self.inside.actors c.self.inside.failed c.self.inside.fates) { actors = c.act.new.actors; fates = c.put_out.new.fates }) (g.A.Air.view c.put_out.new.air) c.put_out.new.out) c.put_out.result) c.self.view_is
    (goes (flown_at (words_of g.G.Signer.certificate_of g.G.Signer.signature_of g.G.Signer.about_of g.G.Signer.verifies c.args.signer.now) c.args.at (world_in (standing_of c.self.inside.clock c.self.inside.config c.self.inside.names c.self.inside.actors c.self.inside.failed c.self.inside.fates) (g.A.Air.view c.args.air.now))) (IsFullAt c.args.at (world_in (standing_of c.self.inside.clock c.self.inside.config c.self.inside.names c.self.inside.actors c.self.inside.failed c.self.inside.fates) (g.A.Air.view c.args.air.now))) (scene_of (standing_of c.self.inside.clock c.self.inside.config c.self.inside.names c.self.inside.actors c.self.inside.failed c.self.inside.fates) (g.A.Air.view c.args.air.now) c.args.out.now) (scene_of (record (standing_of c.self.inside.clock c.self.inside.config c.self.inside.names c.self.inside.actors c.self.inside.failed c.self.inside.fates) { actors = c.act.new.actors; fates = c.put_out.new.fates }) (g.A.Air.view c.put_out.new.air) c.put_out.new.out) c.put_out.result
    (on_ok_all c.put_out.result c.put_out.ensures.fates c.put_out.ensures.sent c.put_out.ensures.told c.put_out.ensures.room (λ added sent told room. heard (words_of g.G.Signer.certificate_of g.G.Signer.signature_of g.G.Signer.about_of g.G.Signer.verifies c.args.signer.now) c.args.at (standing_of c.self.inside.clock c.self.inside.config c.self.inside.names c.self.inside.actors c.self.inside.failed c.self.inside.fates) (g.A.Air.view c.args.air.now) c.args.out.now (subst (λ (s : Standing). IsSound (scene_of s (g.A.Air.view c.args.air.now) c.args.out.now)) (sym c.self.view_is) c.requires.sound) c.args.frame.now c.requires.there (sym c.is_hearing.ensures ∙ c.if-not-is_hearing.false) c.in-Some.from (sym c.node_of.ensures ∙ c.in-Some.is) c.act.new.actors c.in-Some-outputs.outputs (subst (λ b. Some c.in-Some-outputs.outputs ≡ outputs_of (words_of g.G.Signer.certificate_of g.G.Signer.signature_of g.G.Signer.about_of g.G.Signer.verifies c.args.signer.now) c.args.frame.now.to (Framed c.in-Some.from b) (world_in (standing_of c.self.inside.clock c.self.inside.config c.self.inside.names c.self.inside.actors c.self.inside.failed c.self.inside.fates) (g.A.Air.view c.args.air.now))) c.as_slice.ensures (sym c.in-Some-outputs.is ∙ c.in_ok-outputs.ensures.outputs)) (subst (λ b. c.act.new.actors ≡ actors_after (words_of g.G.Signer.certificate_of g.G.Signer.signature_of g.G.Signer.about_of g.G.Signer.verifies c.args.signer.now) c.args.frame.now.to (Framed c.in-Some.from b) (world_in (standing_of c.self.inside.clock c.self.inside.config c.self.inside.names c.self.inside.actors c.self.inside.failed c.self.inside.fates) (g.A.Air.view c.args.air.now))) c.as_slice.ensures c.in_ok-outputs.ensures.actors) c.delivered.new.self c.put_out.new.fates c.put_out.new.out (g.A.Air.view c.put_out.new.air) c.delivered.ensures added sent told room))
    (IfErr-weaker c.put_out.result (Halts ((g.A.Air.view c.args.air.now).sent ++ sent_by c.self.inside.names c.args.frame.now.to c.in-Some-outputs.outputs.frames) IsNone (g.A.Air.view c.args.air.now) (g.A.Air.view c.put_out.new.air)) (Halts (frames_in (flown_at (words_of g.G.Signer.certificate_of g.G.Signer.signature_of g.G.Signer.about_of g.G.Signer.verifies c.args.signer.now) c.args.at (world_in (standing_of c.self.inside.clock c.self.inside.config c.self.inside.names c.self.inside.actors c.self.inside.failed c.self.inside.fates) (g.A.Air.view c.args.air.now))).world) (IsFullAt c.args.at (world_in (standing_of c.self.inside.clock c.self.inside.config c.self.inside.names c.self.inside.actors c.self.inside.failed c.self.inside.fates) (g.A.Air.view c.args.air.now))) (g.A.Air.view c.args.air.now) (g.A.Air.view c.put_out.new.air))
    (λ e h. heard_halts (words_of g.G.Signer.certificate_of g.G.Signer.signature_of g.G.Signer.about_of g.G.Signer.verifies c.args.signer.now) c.args.at (standing_of c.self.inside.clock c.self.inside.config c.self.inside.names c.self.inside.actors c.self.inside.failed c.self.inside.fates) (g.A.Air.view c.args.air.now) c.args.out.now (subst (λ (s : Standing). IsSound (scene_of s (g.A.Air.view c.args.air.now) c.args.out.now)) (sym c.self.view_is) c.requires.sound) c.args.frame.now c.requires.there (sym c.is_hearing.ensures ∙ c.if-not-is_hearing.false) c.in-Some.from (sym c.node_of.ensures ∙ c.in-Some.is) c.act.new.actors c.in-Some-outputs.outputs (subst (λ b. Some c.in-Some-outputs.outputs ≡ outputs_of (words_of g.G.Signer.certificate_of g.G.Signer.signature_of g.G.Signer.about_of g.G.Signer.verifies c.args.signer.now) c.args.frame.now.to (Framed c.in-Some.from b) (world_in (standing_of c.self.inside.clock c.self.inside.config c.self.inside.names c.self.inside.actors c.self.inside.failed c.self.inside.fates) (g.A.Air.view c.args.air.now))) c.as_slice.ensures (sym c.in-Some-outputs.is ∙ c.in_ok-outputs.ensures.outputs)) (subst (λ b. c.act.new.actors ≡ actors_after (words_of g.G.Signer.certificate_of g.G.Signer.signature_of g.G.Signer.about_of g.G.Signer.verifies c.args.signer.now) c.args.frame.now.to (Framed c.in-Some.from b) (world_in (standing_of c.self.inside.clock c.self.inside.config c.self.inside.names c.self.inside.actors c.self.inside.failed c.self.inside.fates) (g.A.Air.view c.args.air.now))) c.as_slice.ensures c.in_ok-outputs.ensures.actors) (g.A.Air.view c.put_out.new.air) e h) c.put_out.ensures.stopped))
