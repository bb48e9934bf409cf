-- Frames that aren't read from their air.
use Rattle.frames_in_flight.specs.declared.reading.FrameError.{FrameError}
use Rattle.frames_in_flight.specs.declared.reading.FrameError.TheVariants as errors
use Rattle.overlay_world.specs.declared.fault.StepFault.{StepFault}
use Rattle.overlay_world.specs.declared.fault.StepFault.TheVariants.{LinkFault, NoMemory}

-- a frame that isn't read, as what stops a step
abbrev pub of_frame : FrameError → StepFault
of_frame errors.Failed = LinkFault
of_frame errors.NoMemory = NoMemory
