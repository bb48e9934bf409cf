-- Notes between peers: their spelling, and how they are read (this profile).
use Rattle.std.specs.Prelude.{ℕ, ◌<◌, ◌^◌, ◌==◌, List, [], ◌∷◌, ◌++◌, length, All, if◌then◌else◌}
use Rattle.wire_core.specs.declared.bad.Reason.TheVariants.{BadValue}
use Rattle.wire_core.specs.Spelling.{number, boolean, vector, joined}
use Rattle.wire_core.specs.Reading.{Reader, ◌>>=◌, done, refused, place_at, number_at, boolean_at, vector_at, list_at}
use Rattle.peer_note.specs.declared.TheConstants.{TURN_LIMIT}
use Rattle.peer_note.specs.declared.note.StoreNote.{StoreNote}
use Rattle.peer_note.specs.declared.note.NoteForm.{NoteForm}
use Rattle.peer_note.specs.declared.note.NoteForm.TheVariants.{Store, Plain}
use Rattle.peer_note.specs.declared.note.PeerNote.{PeerNote}
use Rattle.peer_note.specs.Kinds.{turn_at, kind_notes, kind_note_at, IsSpelledKindNote, IsKindNoteInRange}
use Rattle.peer_note.specs.Kept.{kept_answers, kept_answer_at, IsSpelledKeptAnswer, IsKeptAnswerInRange}

-- the bytes of what a note says of a record
unfoldable pub store_note : StoreNote → List ℕ
store_note n = joined (number 8 n.turn ∷ boolean n.joined ∷ vector 4 (kind_notes n.kinds) ∷ vector 4
    (kept_answers n.kept) ∷ [])

-- a form's bytes: 1 and what is said of the record, or 2 and nothing
unfoldable pub form : NoteForm → List ℕ
form (Store n) = number 1 1 ++ store_note n
form Plain = number 1 2 ++ []

-- a note's bytes
unfoldable pub note : PeerNote → List ℕ
note n = joined (number 8 n.channel ∷ form n.form ∷ [])

-- The turn is below its limit, each kind and each answer fits, and all of them fit their lengths.
pub record IsSpelledStoreNote (n : StoreNote) : Type 0 where
  pub turn : n.turn < TURN_LIMIT
  pub each_kind : All IsSpelledKindNote n.kinds
  pub each_kept : All IsSpelledKeptAnswer n.kept
  pub kinds_fit : length (kind_notes n.kinds) < 2 ^ 32
  pub kept_fit : length (kept_answers n.kept) < 2 ^ 32

-- What is said of the record, if anything, has a spelling.
abbrev pub IsSpelledForm : NoteForm → Type 0
IsSpelledForm (Store n) = IsSpelledStoreNote n
IsSpelledForm Plain = Unit {0}

-- its form has a spelling
abbrev pub IsSpelledNote : PeerNote → Type 0
IsSpelledNote n = IsSpelledForm n.form

-- each number fits its field
pub record IsStoreNoteInRange (n : StoreNote) : Type 0 where
  pub kinds : All IsKindNoteInRange n.kinds
  pub kept : All IsKeptAnswerInRange n.kept

-- each number fits its field
abbrev pub IsFormInRange : NoteForm → Type 0
IsFormInRange (Store n) = IsStoreNoteInRange n
IsFormInRange Plain = Unit {0}

-- each number fits its field
pub record IsNoteInRange (n : PeerNote) : Type 0 where
  pub channel : n.channel < 2 ^ 64
  pub form : IsFormInRange n.form

-- what a note says of a record
unfoldable pub store_note_at : Reader StoreNote
store_note_at = do
  turn ← turn_at
  joined ← boolean_at
  kinds ← vector_at 4 (list_at kind_note_at)
  kept ← vector_at 4 (list_at kept_answer_at)
  done (record { turn = turn; joined = joined; kinds = kinds; kept = kept })

-- the form of a Store's note, behind its first byte
unfoldable pub store_form_at : Reader NoteForm
store_form_at = do
  n ← store_note_at
  done (Store n)

-- what follows a form's first byte, which stands at a place
unfoldable pub form_of : ℕ → ℕ → Reader NoteForm
form_of place code =
    if code == 1 then store_form_at
    else (if code == 2 then done Plain else refused place BadValue)

-- a form; any other first byte than 1 or 2 is a bad value
unfoldable pub form_at : Reader NoteForm
form_at = do
  place ← place_at
  code ← number_at 1
  form_of place code

-- a note
unfoldable pub note_at : Reader PeerNote
note_at = do
  channel ← number_at 8
  form ← form_at
  done (record { channel = channel; form = form })
