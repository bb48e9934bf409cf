use Rattle.std.proofs.Common.{map, refl, ap, ◌∙◌}
use Rattle.std.specs.FinMap.{entries}
use Rattle.std.proofs.lemmas.Result.{err_from_is_err_and}
use Rattle.node_messages.specs.Signed.{words_of}
use Rattle.run_model.specs.declared.moves.Move.TheVariants.{Clock}
use Rattle.run_model.specs.Moves.{clocked}
use Rattle.run_model.specs.Stops.{frames_in, IsNodeFull}
use Rattle.overlay_world.specs.Standings.{Standing, world_in}
use Rattle.overlay_world.specs.Parts.{scene_of}
use Rattle.overlay_world.proofs.Airs.{halts_at_front}
use Rattle.overlay_world.proofs.Flown.{front_before}
use Rattle.overlay_world.proofs.Timed.{adds_clocked, numbers_are, sound_on, clock_goes}
use Rattle.overlay_world.proofs.world.World.clock.Goals as goal

pub returns-in_err-numbers : goal.returns-in_err-numbers
returns-in_err-numbers g c =
    let p = err_from_is_err_and c.from_residual.result c.from_residual.ensures.1 in
    let w = world_in c.args.self.now (g.A.Air.view c.args.air.now) in
    let d = clocked (words_of g.G.Signer.certificate_of g.G.Signer.signature_of g.G.Signer.about_of g.G.Signer.verifies c.args.signer.now) c.args.ms w in
    rw p.1 (halts_at_front (frames_in d.world) (IsNodeFull (words_of g.G.Signer.certificate_of g.G.Signer.signature_of g.G.Signer.about_of g.G.Signer.verifies c.args.signer.now) (Clock c.args.ms) w) (g.A.Air.view c.args.air.now) (g.A.Air.view c.args.air.now) p.0 p.2
    (front_before w d (g.A.Air.view c.args.air.now) c.requires.sound.held (adds_clocked (words_of g.G.Signer.certificate_of g.G.Signer.signature_of g.G.Signer.about_of g.G.Signer.verifies c.args.signer.now) c.args.ms w)) refl)

pub tell_time-requires : goal.tell_time-requires
tell_time-requires g c =
    let sound = sound_on (scene_of c.args.self.now (g.A.Air.view c.args.air.now) c.args.out.now) (scene_of c.go_on.new.self (g.A.Air.view c.args.air.now) c.args.out.now) c.args.ms (ap (λ (s : Standing). scene_of s (g.A.Air.view c.args.air.now) c.args.out.now) c.go_on.ensures) c.requires.sound in record { sound = sound }

pub returns : goal.returns
returns g c =
    clock_goes (words_of g.G.Signer.certificate_of g.G.Signer.signature_of g.G.Signer.about_of g.G.Signer.verifies c.args.signer.now) c.args.ms c.as_slice.result.now (scene_of c.args.self.now (g.A.Air.view c.args.air.now) c.args.out.now) (scene_of c.go_on.new.self (g.A.Air.view c.args.air.now) c.args.out.now) (scene_of c.tell_time.new.self (g.A.Air.view c.tell_time.new.air) c.tell_time.new.out) c.tell_time.result (ap (λ (s : Standing). scene_of s (g.A.Air.view c.args.air.now) c.args.out.now) c.go_on.ensures)
    (c.as_slice.ensures ∙ c.in_ok-numbers.ensures ∙ ap (λ (s : Standing). map (λ a. a.0) (entries s.actors)) c.self.view_is ∙ numbers_are c.args.self.now (g.A.Air.view c.args.air.now))
    c.tell_time.ensures
