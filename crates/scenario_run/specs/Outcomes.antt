-- What a run has sent and written when it ends, and why it ends.
use Rattle.std.specs.Prelude.{◌≡◌, List, ◌∷◌, ◌++◌, Bool, Result, Ok, Err}
use Rattle.reload_base.specs.Outside.{SinkView, AirView, Adds}
use Rattle.reload_base.specs.Whole.{StopsWriting}
use Rattle.reload_base.specs.declared.writing.WriteError.TheVariants as write_error
use Rattle.node_messages.specs.Signed.{SignerWords}
use Rattle.run_model.specs.Worlds.{World}
use Rattle.run_model.specs.Stops.{frames_in}
use Rattle.run_model.specs.Runs.{Event}
use Rattle.overlay_world.specs.declared.fault.StepFault.{StepFault}
use Rattle.overlay_world.specs.declared.fault.StepFault.TheVariants as step_fault
use Rattle.overlay_world.specs.Stopped.{HasFront, Stops}
use Rattle.scenario_text.specs.declared.scenario.Scenario.{Scenario}
use Rattle.scenario_run.specs.declared.fault.RunFault.{RunFault}
use Rattle.scenario_run.specs.declared.fault.RunFault.TheVariants.{LinkFault, AirFull, NodeFull, WriteFault, NoMemory}
use Rattle.scenario_run.specs.Runs.{events_of, world_of, decisions_of, AreFirst}
use Rattle.scenario_run.specs.Texts.{text_of, transcript}
use Rattle.scenario_run.specs.Laws.{AreOfOneMap}

-- what a run sends and writes to
pub record Outlets : Type 0 where
  pub sink : SinkView
  pub air : AirView

-- all frames of a world were sent, and no others, without a fault
abbrev pub Sends : AirView → AirView → World → Type 0
Sends old new w = new ≡ record old { sent = frames_in w }

-- the event behind the first ones stopped, and their lines stand
abbrev pub StopsBehind :
    SignerWords → Bool → Scenario → List Event → Outlets → Outlets → StepFault → Type 0
StopsBehind signer traced s first before after fault =
    (e : Event) × (later : List Event) × (first ++ e ∷ later ≡ events_of s)
    × Stops signer e.0 e.1 (world_of signer s first) before.air after.air fault
    × Adds before.sink after.sink (text_of signer traced s first)

-- some of the first frames of a scenario were sent, without a fault
abbrev pub SendsSome : SignerWords → Scenario → AirView → AirView → Type 0
SendsSome signer s old new =
    (reached : List Event) × AreFirst reached s
    × HasFront new (world_of signer s reached) × (new.faults ≡ old.faults)

-- a run stopped behind the first events
abbrev pub BreaksBehind :
    SignerWords → Bool → Scenario → List Event → Outlets → Outlets → RunFault → Type 0
BreaksBehind signer traced s first before after LinkFault =
    StopsBehind signer traced s first before after step_fault.LinkFault
BreaksBehind signer traced s first before after (AirFull b) =
    StopsBehind signer traced s first before after (step_fault.AirFull b)
BreaksBehind signer traced s first before after (NodeFull n) =
    StopsBehind signer traced s first before after (step_fault.NodeFull n)
BreaksBehind signer traced s first before after WriteFault =
    Sends before.air after.air (world_of signer s first)
    × StopsWriting before.sink after.sink (transcript signer traced s) write_error.Failed
BreaksBehind signer traced s first before after NoMemory =
    SendsSome signer s before.air after.air
    × StopsWriting before.sink after.sink (transcript signer traced s) write_error.NoMemory

-- a run stopped, and its decisions up to there are those of one map
abbrev pub Breaks : SignerWords → Bool → Scenario → Outlets → Outlets → RunFault → Type 0
Breaks signer traced s before after fault =
    (first : List Event) × AreFirst first s × AreOfOneMap (decisions_of signer s first)
    × BreaksBehind signer traced s first before after fault

-- a run came to its end: its transcript stands, all its frames were sent, and its decisions are
-- those of one map
pub record Completes (signer : SignerWords) (traced : Bool) (s : Scenario)
    (before after : Outlets) : Type 0 where
  pub written : Adds before.sink after.sink (transcript signer traced s)
  pub sent : Sends before.air after.air (world_of signer s (events_of s))
  pub one_map : AreOfOneMap (decisions_of signer s (events_of s))

-- how a run ends
abbrev pub Runs :
    SignerWords → Bool → Scenario → Outlets → Outlets → Result (Unit {0}) RunFault → Type 0
Runs signer traced s before after (Ok done) = Completes signer traced s before after
Runs signer traced s before after (Err fault) = Breaks signer traced s before after fault
