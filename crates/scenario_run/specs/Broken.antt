-- What stops an event of a run, and what that is for the run.
use Rattle.std.specs.Prelude.{◌≡◌, ◌⊎◌}
use Rattle.reload_base.specs.Outside.{AirView, raised}
use Rattle.reload_base.specs.declared.writing.WriteError.{WriteError}
use Rattle.reload_base.specs.declared.writing.WriteError.TheVariants as write_error
use Rattle.node_messages.specs.Signed.{SignerWords}
use Rattle.run_model.specs.Worlds.{World}
use Rattle.run_model.specs.Runs.{Event}
use Rattle.overlay_world.specs.declared.fault.StepFault.{StepFault}
use Rattle.overlay_world.specs.declared.fault.StepFault.TheVariants as step_fault
use Rattle.overlay_world.specs.Stopped.{Stops}
use Rattle.scenario_run.specs.declared.fault.RunFault.{RunFault}
use Rattle.scenario_run.specs.declared.fault.RunFault.TheVariants.{LinkFault, AirFull, NodeFull, WriteFault, NoMemory}

-- an event stopped in its world, or memory was missing before it
abbrev pub EventStops : SignerWords → World → Event → AirView → AirView → StepFault → Type 0
EventStops signer w e old new fault =
    Stops signer e.0 e.1 w old new fault ⊎ ((fault ≡ step_fault.NoMemory) × (new ≡ old))

-- the lines of an event weren't made, and why: a frame wasn't read, or memory was missing
abbrev pub IsUntold : AirView → AirView → StepFault → Type 0
IsUntold old new step_fault.LinkFault = new ≡ record old { faults = raised old.faults }
IsUntold old new (step_fault.AirFull b) = ⊥
IsUntold old new (step_fault.NodeFull n) = ⊥
IsUntold old new step_fault.NoMemory = new ≡ old

-- a step that stops, as what stops its run
abbrev pub of_step : StepFault → RunFault
of_step step_fault.LinkFault = LinkFault
of_step (step_fault.AirFull b) = AirFull b
of_step (step_fault.NodeFull n) = NodeFull n
of_step step_fault.NoMemory = NoMemory

-- a write that stops, as what stops its run
abbrev pub of_write : WriteError → RunFault
of_write write_error.Failed = WriteFault
of_write write_error.NoMemory = NoMemory
