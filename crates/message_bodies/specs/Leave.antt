-- Leave: a peer goes, and tells its neighbors of its own (RFC 6940, 6.4.2.2 and 10.9).
use Rattle.std.specs.Prelude.{ℕ, ◌<◌, ◌^◌, ◌==◌, List, [], ◌∷◌, ◌++◌, length, All, if◌then◌else◌}
use Rattle.reload_ids.specs.declared.NodeId.{NodeId}
use Rattle.wire_core.specs.declared.bad.Reason.TheVariants.{BadValue}
use Rattle.wire_core.specs.Spelling.{number, vector, joined}
use Rattle.wire_core.specs.Ids.{node_id, node_id_at, IsNodeIdInRange}
use Rattle.wire_core.specs.Reading.{Reader, ◌>>=◌, done, refused, place_at, number_at, vector_at, list_at}
use Rattle.message_bodies.specs.NodeIds.{node_ids}
use Rattle.message_bodies.specs.declared.leave.ChordLeave.{ChordLeave}
use Rattle.message_bodies.specs.declared.leave.ChordLeave.TheVariants.{FromSucc, FromPred}
use Rattle.message_bodies.specs.declared.body.Body.{Body}
use Rattle.message_bodies.specs.declared.body.Body.TheVariants.{Leave}

-- the bytes of what a leaving peer tells
unfoldable pub chord_leave : ChordLeave → List ℕ
chord_leave (FromSucc successors) = number 1 1 ++ vector 2 (node_ids successors)
chord_leave (FromPred predecessors) = number 1 2 ++ vector 2 (node_ids predecessors)

-- a Leave's body
unfoldable pub leave : NodeId → ChordLeave → List ℕ
leave peer told = joined (node_id peer ∷ vector 2 (chord_leave told) ∷ [])

-- The nodes have at most 65,535 bytes.
abbrev pub IsSpelledChordLeave : ChordLeave → Type 0
IsSpelledChordLeave (FromSucc successors) = length (node_ids successors) < 2 ^ 16
IsSpelledChordLeave (FromPred predecessors) = length (node_ids predecessors) < 2 ^ 16

-- What is told has a spelling, of at most 65,535 bytes.
pub record IsSpelledLeave (told : ChordLeave) : Type 0 where
  pub each : IsSpelledChordLeave told
  pub fits : length (chord_leave told) < 2 ^ 16

-- each number fits its field
abbrev pub IsChordLeaveInRange : ChordLeave → Type 0
IsChordLeaveInRange (FromSucc successors) = All IsNodeIdInRange successors
IsChordLeaveInRange (FromPred predecessors) = All IsNodeIdInRange predecessors

-- each number fits its field
pub record IsLeaveInRange (node : NodeId) (leave : ChordLeave) : Type 0 where
  pub peer : IsNodeIdInRange node
  pub told : IsChordLeaveInRange leave

-- the successors of a successor, behind the type
unfoldable pub from_succ_at : Reader ChordLeave
from_succ_at = do
  successors ← vector_at 2 (list_at node_id_at)
  done (FromSucc successors)

-- the predecessors of a predecessor, behind the type
unfoldable pub from_pred_at : Reader ChordLeave
from_pred_at = do
  predecessors ← vector_at 2 (list_at node_id_at)
  done (FromPred predecessors)

-- what follows the type, which stands at a place
unfoldable pub chord_leave_of : ℕ → ℕ → Reader ChordLeave
chord_leave_of place code =
    if code == 1 then from_succ_at
    else (if code == 2 then from_pred_at else refused place BadValue)

-- what a leaving peer tells; any other type than 1 or 2 is a bad value
unfoldable pub chord_leave_at : Reader ChordLeave
chord_leave_at = do
  place ← place_at
  code ← number_at 1
  chord_leave_of place code

-- a Leave's body
unfoldable pub leave_at : Reader Body
leave_at = do
  peer ← node_id_at
  told ← vector_at 2 chord_leave_at
  done (Leave peer told)
