-- The run of a scenario: its events, its worlds, and its decisions.
use Rattle.std.specs.Prelude.{◌≡◌, List, ◌++◌, map}
use Rattle.node_messages.specs.Signed.{SignerWords}
use Rattle.storage_model.specs.Decisions.{Decision}
use Rattle.run_model.specs.Worlds.{World, first_world}
use Rattle.run_model.specs.Runs.{Event, world_after, happenings, decisions_in}
use Rattle.scenario_text.specs.declared.scenario.Scenario.{Scenario}
use Rattle.scenario_text.specs.declared.scenario.Event as said
use Rattle.scenario_moves.specs.Moves.{move_of}

-- an event of a scenario, as what moves a world
abbrev pub event_of : said.Event → Event
event_of e = (e.line, move_of e.what)

-- the events of a scenario, in order
unfoldable pub events_of : Scenario → List Event
events_of s = map event_of s.events

-- the world before the first event: the declared nodes
unfoldable pub first_of : Scenario → World
first_of s = first_world s.config s.nodes

-- the world after some events
unfoldable pub world_of : SignerWords → Scenario → List Event → World
world_of signer s events = world_after signer (first_of s) events

-- the decisions in some events, in order
unfoldable pub decisions_of : SignerWords → Scenario → List Event → List Decision
decisions_of signer s events = decisions_in s.config (happenings signer (first_of s) events)

-- some events are the first of a scenario
abbrev pub AreFirst : List Event → Scenario → Type 0
AreFirst events s = (later : List Event) × (events ++ later ≡ events_of s)
