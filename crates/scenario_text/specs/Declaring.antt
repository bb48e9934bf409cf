-- What can be declared behind what was, and that events need a peer.
use Rattle.std.specs.Prelude.{ℕ, ◌==◌, ◌&&◌, ◌||◌, not, nat_lt, is_none, Bool, List, length, count_by}
use Rattle.std.specs.List.{list_all, list_any}
use Rattle.data_models.specs.declared.config.TheConstants.{MAX_KINDS}
use Rattle.data_models.specs.declared.config.KindDef.{KindDef}
use Rattle.data_models.specs.declared.config.Config.{Config}
use Rattle.data_models.specs.Configs.{kind_of}
use Rattle.scenario_text.specs.declared.scenario.TheConstants.{MAX_NODES, MAX_PEERS}
use Rattle.request_words.specs.declared.node.Role.{Role}
use Rattle.request_words.specs.declared.node.Role.TheVariants.{Peer}
use Rattle.request_words.specs.declared.node.DeclaredNode.{DeclaredNode}
use Rattle.request_words.specs.Nodes.{is_role}

-- some node is a peer
unfoldable pub has_peer : List DeclaredNode → Bool
has_peer nodes = list_any (λ node. is_role Peer node.role) nodes

-- how many nodes are peers
unfoldable pub peer_count : List DeclaredNode → ℕ
peer_count nodes = count_by (λ node. is_role Peer node.role) nodes

-- a further node of this role isn't a peer too many
unfoldable pub has_room : List DeclaredNode → Role → Bool
has_room nodes role = not (is_role Peer role) || nat_lt (peer_count nodes) MAX_PEERS

-- two nodes have different numbers and Node-IDs
unfoldable pub are_apart : DeclaredNode → DeclaredNode → Bool
are_apart a b = not (a.number == b.number) && not (a.node.0 == b.node.0)

-- a further kind, of another Kind-ID than all others
unfoldable pub is_new_kind : Config → KindDef → Bool
is_new_kind config kind = nat_lt (length config.kinds) MAX_KINDS && is_none (kind_of config kind.id)

-- a further node, apart from all others
unfoldable pub is_new_node : List DeclaredNode → DeclaredNode → Bool
is_new_node nodes node =
    nat_lt (length nodes) MAX_NODES && has_room nodes node.role && list_all (are_apart node) nodes
