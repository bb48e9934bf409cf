-- Node-IDs and Resource-IDs: their spelling, and how they are read.
use Rattle.std.specs.Prelude.{ℕ, ◌<◌, ◌^◌, List, ◌++◌}
use Rattle.reload_ids.specs.declared.NodeId.{NodeId}
use Rattle.reload_ids.specs.declared.ResourceId.{ResourceId}
use Rattle.reload_ids.specs.declared.TheConstants.{ID_LENGTH}
use Rattle.wire_core.specs.Spelling.{number}
use Rattle.wire_core.specs.Reading.{Reader, ◌>>=◌, ◌>>◌, done, number_at, exact_at}

-- a Node-ID: 16 bytes (RFC 6940, 6.3.1.1)
abbrev pub node_id : NodeId → List ℕ
node_id node = number ID_LENGTH node.0

-- a Resource-ID: its length, which is 16 in this profile, and 16 bytes (RFC 6940, 6.3.1.1)
abbrev pub resource_id : ResourceId → List ℕ
resource_id resource = number 1 ID_LENGTH ++ number ID_LENGTH resource.0

-- an id is below 2^128
abbrev pub IsNodeIdInRange : NodeId → Type 0
IsNodeIdInRange node = node.0 < 2 ^ 128

abbrev pub IsResourceIdInRange : ResourceId → Type 0
IsResourceIdInRange resource = resource.0 < 2 ^ 128

-- a Node-ID
unfoldable pub node_id_at : Reader NodeId
node_id_at = do
  x ← number_at ID_LENGTH
  done (record { 0 = x })

-- a Resource-ID; another length than 16 is a bad value
unfoldable pub resource_id_at : Reader ResourceId
resource_id_at = do
  exact_at 1 ID_LENGTH
  x ← number_at ID_LENGTH
  done (record { 0 = x })
