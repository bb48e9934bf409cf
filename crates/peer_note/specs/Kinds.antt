-- What a note says of kinds and their slots: its spelling, and how it is read (this profile).
use Rattle.std.specs.Prelude.{ℕ, ◌<◌, ◌^◌, List, [], ◌∷◌, length, All, nat_lt}
use Rattle.std.specs.List.{flat_map}
use Rattle.wire_core.specs.declared.bad.Reason.TheVariants.{BadValue}
use Rattle.wire_core.specs.Spelling.{AreBytes, number, boolean, vector, joined}
use Rattle.wire_core.specs.Reading.{Reader, ◌>>=◌, ◌>>◌, done, allowed, place_at, rest_at, number_at, boolean_at, vector_at, list_at}
use Rattle.peer_note.specs.declared.TheConstants.{TURN_LIMIT}
use Rattle.peer_note.specs.declared.kind_note.SlotNote.{SlotNote}
use Rattle.peer_note.specs.declared.kind_note.KindNote.{KindNote}

-- a turn or a generation: eight bytes, and a bad value from 2^62 on
unfoldable pub turn_at : Reader ℕ
turn_at = do
  place ← place_at
  n ← number_at 8
  allowed (nat_lt n TURN_LIMIT) place BadValue
  done n

-- a slot's bytes
unfoldable pub slot_note : SlotNote → List ℕ
slot_note s = joined (vector 2 s.key ∷ number 8 s.floor ∷ boolean s.held ∷ number 8 s.expiry ∷ [])

-- the slots of a list, one after the other
abbrev pub slot_notes : List SlotNote → List ℕ
slot_notes slots = flat_map slot_note slots

-- a kind's bytes
unfoldable pub kind_note : KindNote → List ℕ
kind_note k = joined (number 4 k.kind ∷ number 8 k.generation ∷ number 8 k.append_floor ∷ vector 4
    (slot_notes k.slots) ∷ [])

-- the kinds of a list, one after the other
abbrev pub kind_notes : List KindNote → List ℕ
kind_notes kinds = flat_map kind_note kinds

-- A key has at most 65,535 bytes.
abbrev pub IsSpelledSlotNote : SlotNote → Type 0
IsSpelledSlotNote s = length s.key < 2 ^ 16

-- The generation is below its limit, each slot fits, and all of them fit their length.
pub record IsSpelledKindNote (k : KindNote) : Type 0 where
  pub generation : k.generation < TURN_LIMIT
  pub each : All IsSpelledSlotNote k.slots
  pub fits : length (slot_notes k.slots) < 2 ^ 32

-- each number fits its field
pub record IsSlotNoteInRange (s : SlotNote) : Type 0 where
  pub key : AreBytes s.key
  pub floor : s.floor < 2 ^ 64
  pub expiry : s.expiry < 2 ^ 64

-- each number fits its field
pub record IsKindNoteInRange (k : KindNote) : Type 0 where
  pub kind : k.kind < 2 ^ 32
  pub append_floor : k.append_floor < 2 ^ 64
  pub slots : All IsSlotNoteInRange k.slots

-- a slot
unfoldable pub slot_note_at : Reader SlotNote
slot_note_at = do
  key ← vector_at 2 rest_at
  floor ← number_at 8
  held ← boolean_at
  expiry ← number_at 8
  done (record { key = key; floor = floor; held = held; expiry = expiry })

-- a kind
unfoldable pub kind_note_at : Reader KindNote
kind_note_at = do
  kind ← number_at 4
  generation ← turn_at
  append_floor ← number_at 8
  slots ← vector_at 4 (list_at slot_note_at)
  done (record { kind = kind; generation = generation; append_floor = append_floor; slots = slots })
