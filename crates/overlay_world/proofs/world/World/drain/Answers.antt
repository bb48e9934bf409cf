use Rattle.std.proofs.Common.{sym, subst, ◌∙◌, arith}
use Rattle.std.proofs.lemmas.Result.{err_from_is_err_and}
use Rattle.node_messages.specs.Signed.{words_of}
use Rattle.run_model.specs.Moves.{flown_at, drained}
use Rattle.run_model.specs.Stops.{frames_in}
use Rattle.overlay_world.specs.Standings.{Standing, world_in}
use Rattle.overlay_world.specs.Sendings.{Halts, IsFullAt}
use Rattle.overlay_world.specs.Parts.{scene_of, IsSound, Does}
use Rattle.overlay_world.proofs.Standings.{lowest_is}
use Rattle.overlay_world.proofs.Drained.{does_sound, drained_none, next_does, drained_all, drained_out, next_halts}
use Rattle.overlay_world.proofs.world.World.drain.Goals as goal

pub deliveries-init : goal.deliveries-init
deliveries-init g c = drained_none (words_of g.G.Signer.certificate_of g.G.Signer.signature_of g.G.Signer.about_of g.G.Signer.verifies c.args.signer.now) (scene_of c.args.self.now (g.A.Air.view c.args.air.now) c.args.out.now) c.requires.sound

pub fly-requires : goal.fly-requires
fly-requires g c =
    let sound =
    subst (λ (s : Standing). IsSound (scene_of s (g.A.Air.view c.deliveries.air) c.deliveries.out)) (sym c.lowest.ensures.same)
    (does_sound (drained (words_of g.G.Signer.certificate_of g.G.Signer.signature_of g.G.Signer.about_of g.G.Signer.verifies c.args.signer.now) c.deliveries.counter (world_in c.args.self.now (g.A.Air.view c.args.air.now))) (scene_of c.args.self.now (g.A.Air.view c.args.air.now) c.args.out.now) (scene_of c.deliveries.self (g.A.Air.view c.deliveries.air) c.deliveries.out) c.deliveries.invariant) in
    record { sound = sound }

pub deliveries-preserved : goal.deliveries-preserved
deliveries-preserved g c =
    next_does (words_of g.G.Signer.certificate_of g.G.Signer.signature_of g.G.Signer.about_of g.G.Signer.verifies c.args.signer.now) c.deliveries.counter c.in-Some.at (scene_of c.args.self.now (g.A.Air.view c.args.air.now) c.args.out.now) (scene_of c.deliveries.self (g.A.Air.view c.deliveries.air) c.deliveries.out) (scene_of c.fly.new.self (g.A.Air.view c.fly.new.air) c.fly.new.out) c.deliveries.invariant (sym c.in-Some.is ∙ c.lowest.ensures.place ∙ lowest_is c.deliveries.self (g.A.Air.view c.deliveries.air))
    (subst (λ (s : Standing). Does (flown_at (words_of g.G.Signer.certificate_of g.G.Signer.signature_of g.G.Signer.about_of g.G.Signer.verifies c.args.signer.now) c.in-Some.at (world_in s (g.A.Air.view c.deliveries.air))) (scene_of s (g.A.Air.view c.deliveries.air) c.deliveries.out) (scene_of c.fly.new.self (g.A.Air.view c.fly.new.air) c.fly.new.out)) c.lowest.ensures.same c.in_ok-fly.ensures)

pub returns-in_err-fly : goal.returns-in_err-fly
returns-in_err-fly g c =
    let p = err_from_is_err_and c.from_residual.result c.from_residual.ensures.1 in
    rw (p.1, p.2) (next_halts (words_of g.G.Signer.certificate_of g.G.Signer.signature_of g.G.Signer.about_of g.G.Signer.verifies c.args.signer.now) c.deliveries.counter c.args.n c.in-Some.at (scene_of c.args.self.now (g.A.Air.view c.args.air.now) c.args.out.now) (scene_of c.deliveries.self (g.A.Air.view c.deliveries.air) c.deliveries.out) (g.A.Air.view c.fly.new.air) c.in_err-fly.field-0.0 c.deliveries.invariant (sym c.in-Some.is ∙ c.lowest.ensures.place ∙ lowest_is c.deliveries.self (g.A.Air.view c.deliveries.air)) c.deliveries-test.true
    (subst (λ (s : Standing). Halts (frames_in (flown_at (words_of g.G.Signer.certificate_of g.G.Signer.signature_of g.G.Signer.about_of g.G.Signer.verifies c.args.signer.now) c.in-Some.at (world_in s (g.A.Air.view c.deliveries.air))).world) (IsFullAt c.in-Some.at (world_in s (g.A.Air.view c.deliveries.air))) (g.A.Air.view c.deliveries.air) (g.A.Air.view c.fly.new.air) c.in_err-fly.field-0.0) c.lowest.ensures.same c.in_err-fly.ensures))

pub returns-in_default : goal.returns-in_default
returns-in_default g c =
    subst (λ (s : Standing). Does (drained (words_of g.G.Signer.certificate_of g.G.Signer.signature_of g.G.Signer.about_of g.G.Signer.verifies c.args.signer.now) c.args.n (world_in c.args.self.now (g.A.Air.view c.args.air.now))) (scene_of c.args.self.now (g.A.Air.view c.args.air.now) c.args.out.now) (scene_of s (g.A.Air.view c.deliveries.air) c.deliveries.out)) (sym c.lowest.ensures.same)
    (drained_out (words_of g.G.Signer.certificate_of g.G.Signer.signature_of g.G.Signer.about_of g.G.Signer.verifies c.args.signer.now) c.deliveries.counter c.args.n (scene_of c.args.self.now (g.A.Air.view c.args.air.now) c.args.out.now) (scene_of c.deliveries.self (g.A.Air.view c.deliveries.air) c.deliveries.out) c.deliveries.invariant (sym c.in_default.is ∙ c.lowest.ensures.place ∙ lowest_is c.deliveries.self (g.A.Air.view c.deliveries.air)) (omega (arith, c.deliveries-test.true)))

pub returns : goal.returns
returns g c =
    drained_all (words_of g.G.Signer.certificate_of g.G.Signer.signature_of g.G.Signer.about_of g.G.Signer.verifies c.args.signer.now) c.deliveries.counter c.args.n (scene_of c.args.self.now (g.A.Air.view c.args.air.now) c.args.out.now) (scene_of c.deliveries.self (g.A.Air.view c.deliveries.air) c.deliveries.out) c.deliveries.invariant (omega (arith, c.deliveries-test.false, c.deliveries.auto.counter-end))
