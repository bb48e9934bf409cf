-- Update: what a peer tells of itself and of whom it knows (RFC 6940, 6.4.2.3 and 10.7).
use Rattle.std.specs.Prelude.{ℕ, ◌<◌, ◌^◌, ◌==◌, List, [], ◌∷◌, ◌++◌, length, All, if◌then◌else◌}
use Rattle.reload_ids.specs.declared.NodeId.{NodeId}
use Rattle.wire_core.specs.declared.bad.Reason.TheVariants.{BadValue}
use Rattle.wire_core.specs.Spelling.{number, vector, joined}
use Rattle.wire_core.specs.Ids.{node_id, node_id_at, IsNodeIdInRange}
use Rattle.wire_core.specs.Reading.{Reader, ◌>>=◌, done, refused, place_at, number_at, vector_at, list_at}
use Rattle.message_bodies.specs.NodeIds.{node_ids}
use Rattle.message_bodies.specs.declared.update.ChordUpdate.{ChordUpdate}
use Rattle.message_bodies.specs.declared.update.ChordUpdate.TheVariants.{PeerReady, Neighbors, Full}
use Rattle.message_bodies.specs.declared.body.Body.{Body}
use Rattle.message_bodies.specs.declared.body.Body.TheVariants.{Update}

-- the bytes of whom a peer tells of
unfoldable pub chord_update : ChordUpdate → List ℕ
chord_update PeerReady = number 1 1 ++ []
chord_update (Neighbors predecessors successors) =
    number 1 2 ++ joined (vector 2 (node_ids predecessors) ∷ vector 2 (node_ids successors) ∷ [])
chord_update (Full predecessors successors fingers) =
    number 1 3 ++ joined (vector 2 (node_ids predecessors) ∷ vector 2
    (node_ids successors) ∷ vector 2 (node_ids fingers) ∷ [])

-- an Update's body
unfoldable pub update : ℕ → ChordUpdate → List ℕ
update uptime told = joined (number 4 uptime ∷ chord_update told ∷ [])

-- Nodes have at most 65,535 bytes.
abbrev pub FitNodes : List NodeId → Type 0
FitNodes nodes = length (node_ids nodes) < 2 ^ 16

-- Each list of nodes fits its length.
abbrev pub IsSpelledChordUpdate : ChordUpdate → Type 0
IsSpelledChordUpdate PeerReady = Unit {0}
IsSpelledChordUpdate (Neighbors predecessors successors) = FitNodes predecessors
    × FitNodes successors
IsSpelledChordUpdate (Full predecessors successors fingers) =
    FitNodes predecessors × FitNodes successors × FitNodes fingers

-- each number fits its field
abbrev pub IsChordUpdateInRange : ChordUpdate → Type 0
IsChordUpdateInRange PeerReady = Unit {0}
IsChordUpdateInRange (Neighbors predecessors successors) =
    All IsNodeIdInRange predecessors × All IsNodeIdInRange successors
IsChordUpdateInRange (Full predecessors successors fingers) =
    All IsNodeIdInRange predecessors × All IsNodeIdInRange successors × All IsNodeIdInRange fingers

-- each number fits its field
pub record IsUpdateInRange (seconds : ℕ) (update : ChordUpdate) : Type 0 where
  pub uptime : seconds < 2 ^ 32
  pub told : IsChordUpdateInRange update

-- neighbors, behind the type
unfoldable pub neighbors_at : Reader ChordUpdate
neighbors_at = do
  predecessors ← vector_at 2 (list_at node_id_at)
  successors ← vector_at 2 (list_at node_id_at)
  done (Neighbors predecessors successors)

-- all that a peer knows, behind the type
unfoldable pub full_at : Reader ChordUpdate
full_at = do
  predecessors ← vector_at 2 (list_at node_id_at)
  successors ← vector_at 2 (list_at node_id_at)
  fingers ← vector_at 2 (list_at node_id_at)
  done (Full predecessors successors fingers)

-- what follows the type, which stands at a place
unfoldable pub chord_update_of : ℕ → ℕ → Reader ChordUpdate
chord_update_of place code =
    if code == 1 then done PeerReady
    else (if code == 2 then neighbors_at
    else (if code == 3 then full_at else refused place BadValue))

-- whom a peer tells of; any other type than 1, 2 or 3 is a bad value
unfoldable pub chord_update_at : Reader ChordUpdate
chord_update_at = do
  place ← place_at
  code ← number_at 1
  chord_update_of place code

-- an Update's body
unfoldable pub update_at : Reader Body
update_at = do
  uptime ← number_at 4
  told ← chord_update_at
  done (Update uptime told)
