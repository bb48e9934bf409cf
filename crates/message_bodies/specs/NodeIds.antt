-- Lists of Node-IDs.
use Rattle.std.specs.Prelude.{ℕ, List}
use Rattle.std.specs.List.{flat_map}
use Rattle.reload_ids.specs.declared.NodeId.{NodeId}
use Rattle.wire_core.specs.Ids.{node_id}

-- the Node-IDs of a list, one after the other
abbrev pub node_ids : List NodeId → List ℕ
node_ids nodes = flat_map node_id nodes
