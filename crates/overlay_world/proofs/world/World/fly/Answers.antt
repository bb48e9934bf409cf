use Rattle.std.proofs.Common.{sym, subst, arith}
use Rattle.std.proofs.lemmas.Result.{err_from_is_err_and}
use Rattle.node_messages.specs.Signed.{words_of}
use Rattle.run_model.specs.Moves.{flown_at}
use Rattle.run_model.specs.Stops.{frames_in}
use Rattle.overlay_world.specs.Codes.{standing_of}
use Rattle.overlay_world.specs.Standings.{Standing, world_in}
use Rattle.overlay_world.specs.Unread.{of_frame}
use Rattle.overlay_world.specs.Sendings.{Halts, IsFullAt}
use Rattle.overlay_world.specs.Parts.{scene_of, IsSound, Does}
use Rattle.overlay_world.proofs.Standings.{held_many}
use Rattle.overlay_world.proofs.Heard.{nothing_flies, unread_halts}
use Rattle.overlay_world.proofs.world.World.fly.Goals as goal

pub returns-then-count-at : goal.returns-then-count-at
returns-then-count-at g c =
    subst (λ (s : Standing). Does (flown_at (words_of g.G.Signer.certificate_of g.G.Signer.signature_of g.G.Signer.about_of g.G.Signer.verifies c.args.signer.now) c.args.at (world_in s (g.A.Air.view c.args.air.now))) (scene_of s (g.A.Air.view c.args.air.now) c.args.out.now) (scene_of s (g.A.Air.view c.args.air.now) c.args.out.now)) c.self.view_is
    (nothing_flies (words_of g.G.Signer.certificate_of g.G.Signer.signature_of g.G.Signer.about_of g.G.Signer.verifies c.args.signer.now) c.args.at (standing_of c.self.inside.clock c.self.inside.config c.self.inside.names c.self.inside.actors c.self.inside.failed c.self.inside.fates) (g.A.Air.view c.args.air.now) c.args.out.now (subst (λ (s : Standing). IsSound (scene_of s (g.A.Air.view c.args.air.now) c.args.out.now)) (sym c.self.view_is) c.requires.sound) (omega (arith, c.if-count-at.true, c.count.ensures)))

pub frame_at-requires : goal.frame_at-requires
frame_at-requires g c =
    let many = held_many (standing_of c.self.inside.clock c.self.inside.config c.self.inside.names c.self.inside.actors c.self.inside.failed c.self.inside.fates) (g.A.Air.view c.args.air.now) (subst (λ (s : Standing). IsSound (scene_of s (g.A.Air.view c.args.air.now) c.args.out.now)) (sym c.self.view_is) c.requires.sound).held in
    omega (arith, c.if-count-at.false, c.count.ensures, many)

pub returns-in_err-frame : goal.returns-in_err-frame
returns-in_err-frame g c =
    let p = err_from_is_err_and c.from_residual.result c.from_residual.ensures.1 in
    rw (p.1, p.2) (subst (λ (s : Standing). Halts (frames_in (flown_at (words_of g.G.Signer.certificate_of g.G.Signer.signature_of g.G.Signer.about_of g.G.Signer.verifies c.args.signer.now) c.args.at (world_in s (g.A.Air.view c.args.air.now))).world) (IsFullAt c.args.at (world_in s (g.A.Air.view c.args.air.now))) (g.A.Air.view c.args.air.now) (g.A.Air.view c.frame_at.new.air) (of_frame c.in_err-frame.field-0.0)) c.self.view_is
    (unread_halts (words_of g.G.Signer.certificate_of g.G.Signer.signature_of g.G.Signer.about_of g.G.Signer.verifies c.args.signer.now) c.args.at (standing_of c.self.inside.clock c.self.inside.config c.self.inside.names c.self.inside.actors c.self.inside.failed c.self.inside.fates) (g.A.Air.view c.args.air.now) c.args.out.now (subst (λ (s : Standing). IsSound (scene_of s (g.A.Air.view c.args.air.now) c.args.out.now)) (sym c.self.view_is) c.requires.sound) (g.A.Air.view c.frame_at.new.air) c.in_err-frame.field-0.0 c.in_err-frame.ensures.unread))
