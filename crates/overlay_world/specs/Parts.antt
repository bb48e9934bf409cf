-- What the parts of an event make of a world, of its air, and of the lines of what happens.
use Rattle.std.specs.Prelude.{◌≡◌, ℕ, ◌≤◌, List, ◌++◌, Result, Ok, Err}
use Rattle.reload_base.specs.Outside.{AirView, size_of}
use Rattle.node_messages.specs.Signed.{SignerWords}
use Rattle.run_model.specs.declared.limits.TheConstants.{MAX_AIR}
use Rattle.run_model.specs.declared.moves.Move.{Move}
use Rattle.run_model.specs.Worlds.{World, Done}
use Rattle.run_model.specs.Moves.{moved}
use Rattle.run_model.specs.Stops.{frames_in}
use Rattle.run_text.specs.Lines.{happened_text}
use Rattle.overlay_world.specs.declared.fault.StepFault.{StepFault}
use Rattle.overlay_world.specs.Standings.{Standing, world_in, IsHeld}
use Rattle.overlay_world.specs.Sendings.{Halts}
use Rattle.overlay_world.specs.Stopped.{Stops}

-- a world, the air that holds its frames, and the lines of what happened so far
pub record Scene : Type 0 where
  pub standing : Standing
  pub air : AirView
  pub lines : List ℕ

-- a world with an air and lines
abbrev pub scene_of : Standing → AirView → List ℕ → Scene
scene_of standing air lines = record { standing = standing; air = air; lines = lines }

-- the world of a scene
abbrev pub world_of : Scene → World
world_of s = world_in s.standing s.air

-- an event can go on from here: the air holds all frames of the world, and not too many bytes
pub record IsSound (s : Scene) : Type 0 where
  pub held : IsHeld s.standing s.air
  pub room : size_of s.air.sent ≤ MAX_AIR

-- a part of an event did all that the meaning says: the world then, the lines of what happened, by
-- the names that its nodes have then, and the frames of the air, which are those of the world
pub record Does (d : Done) (before after : Scene) : Type 0 where
  pub world : world_of after ≡ d.world
  pub told : after.lines ≡ before.lines ++ happened_text d.world.names d.happened
  pub sent : after.air ≡ record before.air { sent = frames_in d.world }
  pub room : size_of after.air.sent ≤ MAX_AIR

-- how a part of an event ends: it did all, or it stopped; the second argument says which node was
-- to handle something, and handled all that it may
abbrev pub Goes : Done → (ℕ → Type 0) → Scene → Scene → Result (Unit {0}) StepFault → Type 0
Goes d Full before after (Ok done) = Does d before after
Goes d Full before after (Err fault) = Halts (frames_in d.world) Full before.air after.air fault

-- how an event ends
abbrev pub Steps : SignerWords → ℕ → Move → Scene → Scene → Result (Unit {0}) StepFault → Type 0
Steps words line move before after (Ok done) =
    Does (moved words line move (world_of before)) before after
Steps words line move before after (Err fault) =
    Stops words line move (world_of before) before.air after.air fault
