-- What a step that stopped did to its air, and why it stopped.
use Rattle.std.specs.Prelude.{◌≡◌, ℕ, take}
use Rattle.reload_base.specs.Outside.{AirView, raised, size_of}
use Rattle.node_messages.specs.Signed.{SignerWords}
use Rattle.run_model.specs.declared.moves.Move.{Move}
use Rattle.run_model.specs.Worlds.{World}
use Rattle.run_model.specs.Moves.{moved}
use Rattle.run_model.specs.Stops.{frames_in, IsNodeFull, IsAirFull}
use Rattle.overlay_world.specs.declared.fault.StepFault.{StepFault}
use Rattle.overlay_world.specs.declared.fault.StepFault.TheVariants.{LinkFault, AirFull, NodeFull, NoMemory}

-- the first frames of a world, and no others, are in an air
abbrev pub HasFront : AirView → World → Type 0
HasFront air w = (k : ℕ) × (air.sent ≡ take k (frames_in w))

-- an event stopped in a world, behind a front of the frames that it would have sent
abbrev pub Stops : SignerWords → ℕ → Move → World → AirView → AirView → StepFault → Type 0
Stops words line move w old new LinkFault =
    HasFront new (moved words line move w).world × (new.faults ≡ raised old.faults)
Stops words line move w old new (AirFull b) =
    HasFront new (moved words line move w).world × (new.faults ≡ old.faults)
    × (size_of new.sent ≡ b) × IsAirFull (moved words line move w).world b
Stops words line move w old new (NodeFull number) =
    HasFront new (moved words line move w).world × (new.faults ≡ old.faults)
    × IsNodeFull words move w number
Stops words line move w old new NoMemory =
    HasFront new (moved words line move w).world × (new.faults ≡ old.faults)
