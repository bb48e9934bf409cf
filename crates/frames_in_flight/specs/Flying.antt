-- The frames of an air, and what became of them.
use Rattle.std.specs.Prelude.{Bool, true, false, List, [], ◌∷◌}
use Rattle.reload_base.specs.declared.air.AirFrame.{AirFrame}
use Rattle.run_model.specs.declared.flight.Flight.{Flight}
use Rattle.run_model.specs.declared.flight.Fate.{Fate}
use Rattle.run_model.specs.declared.flight.Fate.TheVariants.{Waiting, Delivered, Lost}

-- whether a frame of this fate waits
abbrev pub waits : Fate → Bool
waits fate = elim fate [ Waiting ↦ true | Delivered ↦ false | Lost ↦ false ]

-- a frame of an air, as it flies
abbrev pub flight_in : Fate → AirFrame → Flight
flight_in fate f = record { sender = f.from; hearer = f.to; bytes = f.bytes; fate = fate }

-- what stands for the frame of a fate that has none: from nobody, to nobody, without a byte
abbrev pub no_frame : AirFrame
no_frame = record { from = 0; to = 0; bytes = [] }

-- fates in order, each with its frame, as they fly
unfoldable pub flying : List Fate → List AirFrame → List Flight
flying [] frames = []
flying (fate ∷ fates) [] = flight_in fate no_frame ∷ flying fates []
flying (fate ∷ fates) (f ∷ frames) = flight_in fate f ∷ flying fates frames
