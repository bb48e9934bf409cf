-- What stands outside as one value each, and what a call does to it.
use Rattle.std.specs.Prelude.{◌≡◌, ℕ, ◌+◌, ◌-◌, ◌^◌, ◌<◌, ◌≤◌, nat_lt, if◌then◌else◌, List, [], ◌∷◌, ◌++◌, length, take, slice_get, slice_index, sum_by, Option, Some}
use Rattle.std.specs.List.{AllByRecursion}
use Rattle.std.specs.Io.KnownBytes.{Appends, Consumes, IsAtEnd}
use Rattle.reload_base.specs.declared.source.Took.{Took}
use Rattle.reload_base.specs.declared.source.Took.TheVariants as took
use Rattle.reload_base.specs.declared.sink.Wrote.{Wrote}
use Rattle.reload_base.specs.declared.sink.Wrote.TheVariants as wrote
use Rattle.reload_base.specs.declared.air.AirFrame.{AirFrame}
use Rattle.reload_base.specs.declared.air.Sent.{Sent}
use Rattle.reload_base.specs.declared.air.Sent.TheVariants as sent
use Rattle.reload_base.specs.declared.air.Got.{Got}
use Rattle.reload_base.specs.declared.air.Got.TheVariants as got

-- a source: the bytes that are left, where it tells, and the faults that it counted
pub record SourceView : Type 0 where
  pub left : Option (List ℕ)
  pub faults : ℕ

-- a sink: the bytes that were written, where it tells, and its faults
pub record SinkView : Type 0 where
  pub written : Option (List ℕ)
  pub faults : ℕ

-- an air: the frames that were sent, and its faults
pub record AirView : Type 0 where
  pub sent : List AirFrame
  pub faults : ℕ

-- a count after one more: it never falls, and one that stands at its end, 2^64 - 1, counts as risen
abbrev pub raised : ℕ → ℕ
raised n = if nat_lt n (2 ^ 64 - 1) then n + 1 else n

-- these bytes, the first that were left, were taken without a fault
abbrev pub Takes : SourceView → SourceView → List ℕ → Type 0
Takes old new bytes = Consumes old.left new.left bytes × (new.faults ≡ old.faults)

-- these bytes were taken, and then a read failed
abbrev pub TakesThenFails : SourceView → SourceView → List ℕ → Type 0
TakesThenFails old new bytes = Consumes old.left new.left bytes × (new.faults ≡ raised old.faults)

-- these bytes were added behind those that stood there, without a fault
abbrev pub Adds : SinkView → SinkView → List ℕ → Type 0
Adds old new bytes = Appends old.written new.written bytes × (new.faults ≡ old.faults)

-- these bytes were added, and then a write failed
abbrev pub AddsThenFails : SinkView → SinkView → List ℕ → Type 0
AddsThenFails old new bytes =
    Appends old.written new.written bytes × (new.faults ≡ raised old.faults)

-- a read that took n moved the first n bytes left to the buffer's front, none only at the end;
-- one that failed took nothing
abbrev pub Reads : SourceView → SourceView → Took → List ℕ → Type 0
Reads old new (took.Some n) buf =
    (n ≤ length buf) × Takes old new (take n buf) × (n ≡ 0 → IsAtEnd new.left)
Reads old new took.Failed buf = TakesThenFails old new []

-- a write that took n added the piece's first n bytes, at least one; any other added nothing
abbrev pub Writes : SinkView → SinkView → Wrote → List ℕ → Type 0
Writes old new (wrote.Some n) piece = (0 < n) × (n ≤ length piece) × Adds old new (take n piece)
Writes old new wrote.Failed piece = AddsThenFails old new []
Writes old new wrote.NoMemory piece = Adds old new []

-- how many bytes the frames have together
unfoldable pub size_of : List AirFrame → ℕ
size_of frames = sum_by (λ f. length f.bytes) frames

-- what each frame holds are bytes
abbrev pub HoldBytes : List AirFrame → Type 0
HoldBytes frames = AllByRecursion (λ f. (i : ℕ) → slice_index f.bytes i < 2 ^ 8) frames

-- a send that is Ok put one frame with these bytes behind the others; any other sent nothing
abbrev pub Sends : AirView → AirView → Sent → AirFrame → Type 0
Sends old new sent.Ok frame = new ≡ record old { sent = old.sent ++ frame ∷ [] }
Sends old new sent.Failed frame = new ≡ record old { faults = raised old.faults }
Sends old new sent.NoMemory frame = new ≡ old

-- the frame that is given is the k-th, counted from 1; the frames stay as they are
abbrev pub Gets : AirView → AirView → ℕ → Got → Type 0
Gets old new k (got.Frame f) = (slice_get old.sent (k - 1) ≡ Some f) × (new ≡ old)
Gets old new k got.Failed = new ≡ record old { faults = raised old.faults }
Gets old new k got.NoMemory = new ≡ old
