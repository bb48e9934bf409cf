-- What a step of a listing adds.
use Rattle.std.specs.Prelude.{◌≡◌, ℕ, List, ◌++◌, length, drop, Some, None, Result, Ok, Err}
use Rattle.text_words.specs.Lines.{ended}
use Rattle.wire_core.specs.declared.bad.Bad.{Bad}
use Rattle.wire_core.specs.declared.bad.DecodeFault.{DecodeFault}
use Rattle.wire_core.specs.declared.bad.DecodeFault.TheVariants as faults
use Rattle.wire_core.specs.Part.{Part}
use Rattle.link_framing.specs.declared.frame.Frame.{Frame}
use Rattle.link_framing.specs.declared.frame.FrameView.{FrameView}
use Rattle.link_framing.specs.Views.{seen}
use Rattle.link_framing.specs.Framing.{frame, IsFrame}
use Rattle.frame_listing.specs.declared.listing.Listing.{Listing}
use Rattle.frame_listing.specs.Listing.{IsWholeFrame, IsNoFrame, IsFault}
use Rattle.frame_listing.specs.Messages.{frame_listing}

-- the frame in front and the number of its bytes, or the fault that there is none
abbrev pub IsNext : Result (FrameView × ℕ) Bad → ℕ → List ℕ → Type 0
IsNext (Ok found) place rest =
    IsFrame (seen found.0) × (found.1 ≡ length (frame (seen found.0)))
    × (rest ≡ frame (seen found.0) ++ drop found.1 rest)
IsNext (Err fault) place rest = IsNoFrame place rest fault

-- a part was read and its line added, or it has a fault and nothing was added
abbrev pub AddsLine : {A : Type 0} → Result (Unit {0}) DecodeFault → Result (A × Part) Bad
    → (A → List ℕ) → Part → List ℕ → List ℕ → Type 0
AddsLine {A} (Ok done) read line left old new =
    (x : A) × (read ≡ Ok (x, left)) × (new ≡ old ++ ended (line x))
AddsLine (Err (faults.Bad fault)) read line left old new = (read ≡ Err fault) × (new ≡ old)
AddsLine (Err faults.NoMemory) read line left old new = Unit {0}

-- this was listed, and its fault, if it has one, was answered
abbrev pub Lists : Result (Unit {0}) DecodeFault → Listing → List ℕ → List ℕ → Type 0
Lists (Ok done) listing old new = (listing.fault ≡ None) × (new ≡ old ++ listing.text)
Lists (Err (faults.Bad fault)) listing old new =
    (listing.fault ≡ Some fault) × (new ≡ old ++ listing.text)
Lists (Err faults.NoMemory) listing old new = Unit {0}

-- the whole frame in front was listed, which has so many bytes, or what is before the first fault
abbrev pub AddsFront : Result ℕ DecodeFault → ℕ → List ℕ → List ℕ → List ℕ → Type 0
AddsFront (Ok n) place rest old new =
    (f : Frame) × IsWholeFrame f × (n ≡ length (frame f)) × (rest ≡ frame f ++ drop n rest)
    × (new ≡ old ++ (frame_listing place f).text)
AddsFront (Err (faults.Bad fault)) place rest old new =
    (own : List ℕ) × IsFault place rest own fault × (new ≡ old ++ own)
AddsFront (Err faults.NoMemory) place rest old new = Unit {0}
