-- The stream of a link: its frames, and what stands behind the last of them.
use Rattle.std.specs.Prelude.{◌≡◌, ◌≢◌, ℕ, ◌+◌, ◌-◌, ◌*◌, ◌<◌, ◌≤◌, ◌⊎◌, List, [], ◌∷◌, ◌++◌, length, slice_index, ◌==◌, nat_le, if◌then◌else◌}
use Rattle.std.specs.List.{flat_map, AllByRecursion}
use Rattle.wire_core.specs.Part.{Part}
use Rattle.wire_core.specs.declared.limits.TheConstants.{MAX_MESSAGE}
use Rattle.link_framing.specs.declared.frame.Frame.{Frame}
use Rattle.link_framing.specs.Framing.{frame, IsFrame}

-- the first byte is this one
abbrev pub BeginsWith : ℕ → List ℕ → Type 0
BeginsWith code [] = ⊥
BeginsWith code (b ∷ bytes) = b ≡ code

-- a frame stands in front
pub record BeginsFrame (bytes : List ℕ) : Type 0 where
  pub first : Frame
  pub rest : List ℕ
  pub fits : IsFrame first
  pub spelled : bytes ≡ frame first ++ rest

-- a proper front of a frame's bytes, which may be empty
pub record IsFront (bytes : List ℕ) : Type 0 where
  pub whole : Frame
  pub missing : List ℕ
  pub fits : IsFrame whole
  pub some : 0 < length missing
  pub spelled : frame whole ≡ bytes ++ missing

-- Less than a frame; fewer than 8 bytes that begin with 128 count too, whatever their length says.
abbrev pub IsPartial : List ℕ → Type 0
IsPartial bytes = IsFront bytes ⊎ (BeginsWith 128 bytes × (length bytes < 8))

-- the first byte begins no frame
abbrev pub IsBadType : List ℕ → Type 0
IsBadType [] = ⊥
IsBadType (b ∷ bytes) = (b ≢ 128) × (b ≢ 129)

-- the number that the three bytes of a payload's length make, where a byte that hasn't come is 0
abbrev pub length_in : List ℕ → ℕ
length_in bytes = 65536 * slice_index bytes 5 + 256 * slice_index bytes 6 + slice_index bytes 7

-- a payload whose length is there and is too large
pub record IsTooLarge (bytes : List ℕ) : Type 0 where
  pub code : BeginsWith 128 bytes
  pub there : 8 ≤ length bytes
  pub large : MAX_MESSAGE < length_in bytes

-- no frame stands in front: bytes are missing, or none can come any more
abbrev pub IsEnd : List ℕ → Type 0
IsEnd bytes = IsPartial bytes ⊎ (IsBadType bytes ⊎ IsTooLarge bytes)

-- A stream is these frames and then a rest, which is less than a frame or begins with a fault.
pub record Stream (frames : List Frame) (bytes rest : List ℕ) : Type 0 where
  pub whole : bytes ≡ flat_map frame frames ++ rest
  pub each : AllByRecursion IsFrame frames
  pub end : IsEnd rest

-- ---- a reader has a part of the stream, the front of which was taken

-- a piece more of the stream
abbrev pub fed : List ℕ → Part → Part
fed piece held = record held { bytes = held.bytes ++ piece }

-- a frame less in front
pub record Takes (first : Frame) (old new : Part) : Type 0 where
  pub fits : IsFrame first
  pub bytes : old.bytes ≡ frame first ++ new.bytes
  pub place : new.place ≡ old.place + length (frame first)

-- a call that did something: a piece was fed, or a frame was taken
pub data Call : Type 0 where
  Fed : List ℕ → Call
  Took : Frame → Call

-- what it does
abbrev pub Step : Part → Call → Part → Type 0
Step old (Fed piece) new = new ≡ fed piece old
Step old (Took first) new = Takes first old new

-- these calls, one after the other
abbrev pub Run : Part → List Call → Part → Type 0
Run old [] new = new ≡ old
Run old (call ∷ calls) new = (held : Part) × Step old call held × Run held calls new

-- the bytes fed, in order
abbrev pub fed_by : List Call → List ℕ
fed_by [] = []
fed_by (Fed piece ∷ calls) = piece ++ fed_by calls
fed_by (Took first ∷ calls) = fed_by calls

-- the frames taken, in order
abbrev pub taken_by : List Call → List Frame
taken_by [] = []
taken_by (Fed piece ∷ calls) = taken_by calls
taken_by (Took first ∷ calls) = first ∷ taken_by calls

-- what was fed to a new reader
abbrev pub nothing : Part
nothing = record { place = 0; bytes = [] }

-- ---- how much is missing

-- the least number of further bytes after which this holds
pub record IsLeastMore (Holds : List ℕ → Type 0) (bytes : List ℕ) (n : ℕ) : Type 0 where
  pub more : List ℕ
  pub count : length more ≡ n
  pub reached : Holds (bytes ++ more)
  pub least : (other : List ℕ) → Holds (bytes ++ other) → n ≤ length other

-- the least number of bytes that are missing to a frame or, where none can come, to a fault
abbrev pub IsMissing : List ℕ → ℕ → Type 0
IsMissing bytes n = IsLeastMore BeginsFrame bytes n
    ⊎ (((more : List ℕ) → BeginsFrame (bytes ++ more) → ⊥)
    × IsLeastMore (λ more. IsBadType more ⊎ IsTooLarge more) bytes n)

-- the least length of a payload's message, as far as it is there, and 0 where that is too large
abbrev pub least_message : List ℕ → ℕ
least_message bytes = if nat_le (length_in bytes) MAX_MESSAGE then length_in bytes else 0

-- the least number of bytes of a frame that begins so or, where its length is too large, of a fault
unfoldable pub least_whole : List ℕ → ℕ
least_whole [] = 8
least_whole (b ∷ bytes) =
    if b == 128 then 8 + least_message (b ∷ bytes) else (if b == 129 then 9 else 0)

-- the number of bytes that surely are missing to a frame or, where none can come, to the fault
abbrev pub wanted : List ℕ → ℕ
wanted bytes = least_whole bytes - length bytes
