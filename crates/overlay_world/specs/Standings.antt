-- What a world has beside the frames of its air.
use Rattle.std.specs.Prelude.{◌≡◌, ℕ, List}
use Rattle.std.specs.Ordering.{nat_cmp}
use Rattle.std.specs.FinMap.{FinMap}
use Rattle.reload_base.specs.Outside.{AirView}
use Rattle.data_models.specs.declared.config.Config.{Config}
use Rattle.request_words.specs.declared.node.DeclaredNode.{DeclaredNode}
use Rattle.run_model.specs.declared.flight.Fate.{Fate}
use Rattle.run_model.specs.Worlds.{World, Actor}
use Rattle.run_model.specs.Stops.{frames_in}
use Rattle.frames_in_flight.specs.Flying.{flying}

-- a world without its frames: what became of each stands in their place
pub record Standing : Type 0 where
  pub clock : ℕ
  pub config : Config
  pub names : List DeclaredNode
  pub actors : FinMap nat_cmp Actor
  pub failed : List ℕ
  pub fates : List Fate

-- the world whose frames an air holds
abbrev pub world_in : Standing → AirView → World
world_in s air = record {
  clock = s.clock;
  config = s.config;
  names = s.names;
  actors = s.actors;
  failed = s.failed;
  flights = flying s.fates air.sent;
}

-- an air holds the frames of a world, and no others
abbrev pub IsHeld : Standing → AirView → Type 0
IsHeld s air = air.sent ≡ frames_in (world_in s air)
