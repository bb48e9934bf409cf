-- What stands at the front of bytes, the first of which is at a place of the stream.
use Rattle.std.specs.Prelude.{◌≡◌, ◌⊎◌, ℕ, ◌+◌, List, ◌++◌, length, drop, Option, Some, None, Result, Ok, Err}
use Rattle.wire_core.specs.declared.bad.Bad.{Bad}
use Rattle.wire_core.specs.declared.bad.Reason.{Reason}
use Rattle.wire_core.specs.declared.bad.Reason.TheVariants.{Short, LengthPast, BadValue, Trailing, TooLarge}
use Rattle.wire_core.specs.Part.{Part}
use Rattle.link_framing.specs.declared.frame.Frame.{Frame}
use Rattle.link_framing.specs.declared.frame.FrameView.{FrameView}
use Rattle.link_framing.specs.declared.frame.FrameFault.{FrameFault}
use Rattle.link_framing.specs.declared.frame.FrameFault.TheVariants as faults
use Rattle.link_framing.specs.Framing.{frame, IsFrame}
use Rattle.link_framing.specs.Views.{seen}
use Rattle.link_framing.specs.Held.{Held}
use Rattle.link_framing.specs.Streams.{BeginsFrame, IsPartial, IsBadType, IsTooLarge, Takes}

-- a frame and the number of its bytes, less than a frame, or the fault in front; no memory is taken
abbrev pub Finds : Result (Option (FrameView × ℕ)) Bad → ℕ → List ℕ → Type 0
Finds (Ok (Some found)) place bytes =
    IsFrame (seen found.0) × (found.1 ≡ length (frame (seen found.0)))
    × (bytes ≡ frame (seen found.0) ++ drop found.1 bytes)
Finds (Ok None) place bytes = IsPartial bytes
Finds (Err fault) place bytes =
    (IsBadType bytes × (fault ≡ record { place = place; reason = BadValue }))
    ⊎ (IsTooLarge bytes × (fault ≡ record { place = place + 5; reason = TooLarge }))

-- this frame, and the number of its bytes
abbrev pub IsFound : Result (Option (FrameView × ℕ)) Bad → Frame → Type 0
IsFound (Ok (Some found)) f = (seen found.0 ≡ f) × (found.1 ≡ length (frame f))
IsFound (Ok None) f = ⊥
IsFound (Err fault) f = ⊥

-- why a reader gives no frame of what it was fed
abbrev pub IsWhy : FrameFault → Part → Type 0
IsWhy (faults.BadType at) p = IsBadType p.bytes × (at ≡ p.place)
IsWhy (faults.TooLarge at) p = IsTooLarge p.bytes × (at ≡ p.place + 5)
IsWhy faults.NoMemory p = BeginsFrame p.bytes

-- what a reader gave, and what it holds before and after; it takes a frame or leaves all as it was
abbrev pub Gives : Result (Option Frame) FrameFault → Held → Held → Type 0
Gives (Ok (Some f)) old new = Takes f old.left new.left
Gives (Ok None) old new = IsPartial old.left.bytes × (new ≡ old)
Gives (Err fault) old new = IsWhy fault old.left × (new ≡ old)

-- what a fault at a place says of these bytes, where they were read as a frame
abbrev pub Says : ℕ → List ℕ → ℕ → Reason → Type 0
Says place bytes at Short = IsPartial bytes
Says place bytes at LengthPast = IsPartial bytes
Says place bytes at BadValue = IsBadType bytes × (at ≡ place)
Says place bytes at TooLarge = IsTooLarge bytes × (at ≡ place + 5)
Says place bytes at Trailing = ⊥
