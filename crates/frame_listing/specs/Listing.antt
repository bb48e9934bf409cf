-- What is listed of a stream: its whole frames, and the fault behind them or how much there was.
use Rattle.std.specs.Prelude.{◌≡◌, ◌≢◌, ℕ, ◌+◌, ◌⊎◌, List, [], ◌∷◌, ◌++◌, length, Option, Some, None}
use Rattle.std.specs.List.{flat_map, AllByRecursion}
use Rattle.text_words.specs.Lines.{ended}
use Rattle.wire_core.specs.declared.bad.Bad.{Bad}
use Rattle.wire_core.specs.declared.bad.Reason.{Reason}
use Rattle.wire_core.specs.declared.bad.Reason.TheVariants.{Short, BadValue, TooLarge}
use Rattle.forwarding_header.specs.declared.header.Header.{Header}
use Rattle.forwarding_header.specs.Header.{header, IsMessage}
use Rattle.message_bodies.specs.declared.contents.Contents.{Contents}
use Rattle.message_bodies.specs.Messages.{message, IsSpelledMessage}
use Rattle.security_block.specs.declared.block.SecurityBlock.{SecurityBlock}
use Rattle.link_framing.specs.declared.frame.Frame.{Frame}
use Rattle.link_framing.specs.declared.frame.Frame.TheVariants.{Payload, Ack}
use Rattle.link_framing.specs.Framing.{frame, IsFrame}
use Rattle.link_framing.specs.Streams.{IsPartial, IsBadType, IsTooLarge}
use Rattle.frame_listing.specs.Lines.{end_line, fault_line}
use Rattle.frame_listing.specs.Messages.{no_kinds, frame_listing}

-- A whole message: a header, contents of unknown kinds and a security block fill its length.
pub record IsWholeMessage (bytes : List ℕ) : Type 0 where
  pub h : Header
  pub c : Contents
  pub b : SecurityBlock
  pub headed : IsMessage h bytes
  pub fits : IsSpelledMessage no_kinds c b
  pub spelled : bytes ≡ header h ++ message c b

-- a payload holds a whole message
abbrev pub HoldsMessage : Frame → Type 0
HoldsMessage (Payload sequence message) = IsWholeMessage message
HoldsMessage (Ack sequence received) = Unit {0}

-- a whole frame, and a whole message where it is a payload
abbrev pub IsWholeFrame : Frame → Type 0
IsWholeFrame f = IsFrame f × HoldsMessage f

-- a stream is whole frames of whole messages
abbrev pub IsWhole : List ℕ → Type 0
IsWhole bytes =
    (frames : List Frame) × AllByRecursion IsWholeFrame frames × (bytes ≡ flat_map frame frames)

-- the lines of frames, the first of which stands at a place
abbrev pub lines_of : ℕ → List Frame → List ℕ
lines_of place [] = []
lines_of place (f ∷ fs) = (frame_listing place f).text ++ lines_of (place + length (frame f)) fs

-- a fault with its place and its reason
abbrev pub at : ℕ → Reason → Bad
at place reason = record { place = place; reason = reason }

-- a frame stands in front, whose message has a fault, behind these lines
pub record IsBadFrame (place : ℕ) (rest text : List ℕ) (fault : Bad) : Type 0 where
  pub first : Frame
  pub later : List ℕ
  pub fits : IsFrame first
  pub spelled : rest ≡ frame first ++ later
  pub lines : (frame_listing place first).text ≡ text
  pub is : (frame_listing place first).fault ≡ Some fault

-- no frame stands in front of bytes at a place; less than a frame is short at the stream's end
abbrev pub IsNoFrame : ℕ → List ℕ → Bad → Type 0
IsNoFrame place rest fault =
    (IsBadType rest × (fault ≡ at place BadValue))
    ⊎ ((IsTooLarge rest × (fault ≡ at (place + 5) TooLarge))
    ⊎ (IsPartial rest × (rest ≢ []) × (fault ≡ at (place + length rest) Short)))

-- the fault in front of a rest that begins at a place, and the lines before it
abbrev pub IsFault : ℕ → List ℕ → List ℕ → Bad → Type 0
IsFault place rest text fault =
    IsBadFrame place rest text fault ⊎ (IsNoFrame place rest fault × (text ≡ []))

-- what ends the listing behind these frames: how many they and their bytes are, or the fault
abbrev pub IsEnding : List Frame → List ℕ → List ℕ → Option Bad → Type 0
IsEnding frames rest text None =
    (rest ≡ []) × (text ≡ ended (end_line (length frames) (length (flat_map frame frames))))
IsEnding frames rest text (Some fault) =
    (before : List ℕ) × IsFault (length (flat_map frame frames)) rest before fault
    × (text ≡ before ++ ended (fault_line fault))

-- the listing of a stream, and its first fault, if it has one
pub record IsListing (bytes text : List ℕ) (fault : Option Bad) : Type 0 where
  pub frames : List Frame
  pub rest : List ℕ
  pub ending : List ℕ
  pub each : AllByRecursion IsWholeFrame frames
  pub spelled : bytes ≡ flat_map frame frames ++ rest
  pub ends : IsEnding frames rest ending fault
  pub whole : text ≡ lines_of 0 frames ++ ending
