-- Join: a peer asks to be admitted (RFC 6940, 6.4.2.1; this profile sends no further data).
use Rattle.std.specs.Prelude.{ℕ, ◌<◌, ◌^◌, List, [], ◌∷◌, length}
use Rattle.reload_ids.specs.declared.NodeId.{NodeId}
use Rattle.wire_core.specs.Spelling.{AreBytes, number, vector, joined}
use Rattle.wire_core.specs.Ids.{node_id, node_id_at, IsNodeIdInRange}
use Rattle.wire_core.specs.Reading.{Reader, ◌>>=◌, done, rest_at, vector_at}
use Rattle.message_bodies.specs.declared.body.Body.{Body}
use Rattle.message_bodies.specs.declared.body.Body.TheVariants.{Join}

-- a Join's body
unfoldable pub join : NodeId → List ℕ → List ℕ
join peer bytes = joined (node_id peer ∷ vector 2 bytes ∷ [])

-- each number fits its field
pub record IsJoinInRange (node : NodeId) (rest : List ℕ) : Type 0 where
  pub peer : IsNodeIdInRange node
  pub bytes : AreBytes rest

-- a Join's body
unfoldable pub join_at : Reader Body
join_at = do
  peer ← node_id_at
  bytes ← vector_at 2 rest_at
  done (Join peer bytes)
