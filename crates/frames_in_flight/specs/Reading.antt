-- A frame that isn't read from its air.
use Rattle.std.specs.Prelude.{◌≡◌}
use Rattle.reload_base.specs.Outside.{AirView, raised}
use Rattle.frames_in_flight.specs.declared.reading.FrameError.{FrameError}
use Rattle.frames_in_flight.specs.declared.reading.FrameError.TheVariants.{Failed, NoMemory}

-- nothing was read, and why: the air's count of faults rose, or memory was missing
abbrev pub IsUnread : AirView → AirView → FrameError → Type 0
IsUnread old new Failed = new ≡ record old { faults = raised old.faults }
IsUnread old new NoMemory = new ≡ old
