-- How the parts of an event end.
use Rattle.std.proofs.Common.{◌≡◌, ℕ, List, [], ◌∷◌, ◌++◌, refl, sym, ap, subst, ◌∙◌}
use Rattle.std.specs.Prelude.{Result, Ok, Err, IfErr, OnOk}
use Rattle.reload_base.specs.Outside.{AirView}
use Rattle.node_messages.specs.Signed.{SignerWords}
use Rattle.run_model.specs.declared.happening.Happening.{Happening}
use Rattle.run_model.specs.declared.moves.Move.{Move}
use Rattle.run_model.specs.Worlds.{Done, refused}
use Rattle.run_model.specs.Moves.{moved}
use Rattle.run_model.specs.Stops.{frames_in, IsNodeFull}
use Rattle.run_text.specs.Lines.{happened_text}
use Rattle.overlay_world.specs.declared.fault.StepFault.{StepFault}
use Rattle.overlay_world.specs.declared.fault.StepFault.TheVariants.{NoMemory}
use Rattle.overlay_world.specs.Standings.{Standing, world_in}
use Rattle.overlay_world.specs.Sendings.{Halts}
use Rattle.overlay_world.specs.Parts.{Scene, scene_of, world_of, IsSound, Does, Goes, Steps}
use Rattle.overlay_world.proofs.Airs.{halts_wider}
use Rattle.overlay_world.proofs.Flown.{refusal_does}
use Rattle.overlay_world.proofs.Stopping.{stops_of, stills}

-- what an answer ensures where it is good, and what where it isn't
pub goes : (d : Done) (Full : ℕ → Type 0) (before after : Scene) (r : Result (Unit {0}) StepFault) → OnOk r (Does d before after) → IfErr r (Halts (frames_in d.world) Full before.air after.air) → Goes d Full before after r
goes d Full before after (Ok done) does halts = does
goes d Full before after (Err e) does halts = halts

-- one part of an event as another one that comes to the same
pub goes_as : (d e : Done) (Full Wider : ℕ → Type 0) (before after : Scene) (r : Result (Unit {0}) StepFault) → d ≡ e
    → ((f : StepFault) → Halts (frames_in d.world) Full before.air after.air f → Halts (frames_in e.world) Wider before.air after.air f)
    → Goes d Full before after r → Goes e Wider before after r
goes_as d e Full Wider before after (Ok done) is wider g = subst (λ (x : Done). Does x before after) is g
goes_as d e Full Wider before after (Err f) is wider g = wider f g

-- a part of an event of which more nodes may be full
pub goes_wider : (d : Done) (Full Wider : ℕ → Type 0) (before after : Scene) (r : Result (Unit {0}) StepFault) → ((n : ℕ) → Full n → Wider n) → Goes d Full before after r → Goes d Wider before after r
goes_wider d Full Wider before after r wider g =
    goes_as d d Full Wider before after r refl (λ f h. halts_wider (frames_in d.world) Full Wider before.air after.air f wider h) g

-- an event that is refused
pub refusal_goes : (d : Done) (Full : ℕ → Type 0) (s : Standing) (air : AirView) (before after : List ℕ) (why : Happening) (r : Result (Unit {0}) StepFault) → d ≡ refused (world_in s air) why → IsSound (scene_of s air before)
    → OnOk r (after ≡ before ++ happened_text s.names (why ∷ [])) → IfErr r (λ e. e ≡ NoMemory) → Goes d Full (scene_of s air before) (scene_of s air after) r
refusal_goes d Full s air before after why (Ok done) is sound told memory = refusal_does d s air before after why is sound told
refusal_goes d Full s air before after why (Err e) is sound told memory =
    let r : Result (Unit {0}) StepFault = Err e in
    stills d Full air r (sound.held ∙ ap (λ (x : Done). frames_in x.world) (sym is)) memory

-- an event ends as its only part does
pub steps : (words : SignerWords) (line : ℕ) (move : Move) (before after : Scene) (r : Result (Unit {0}) StepFault) → Goes (moved words line move (world_of before)) (IsNodeFull words move (world_of before)) before after r
    → Steps words line move before after r
steps words line move before after (Ok done) g = g
steps words line move before after (Err e) g = stops_of words line move (world_of before) before.air after.air e g
