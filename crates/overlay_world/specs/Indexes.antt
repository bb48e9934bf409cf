-- The names of nodes, by what they are looked up by. Of two with one key the first counts.
use Rattle.std.specs.Prelude.{◌≡◌, ℕ, List, [], ◌∷◌}
use Rattle.std.specs.Ordering.{nat_cmp}
use Rattle.std.specs.FinMap.{FinMap, insert, empty}
use Rattle.reload_ids.specs.declared.NodeId.{NodeId}
use Rattle.request_words.specs.declared.node.DeclaredNode.{DeclaredNode}

-- the numbers of nodes by Node-ID, with another node
abbrev pub with_number : DeclaredNode → FinMap nat_cmp ℕ → FinMap nat_cmp ℕ
with_number n numbers = insert numbers n.node.0 n.number

-- the Node-IDs of nodes by number, with another node
abbrev pub with_node : DeclaredNode → FinMap nat_cmp NodeId → FinMap nat_cmp NodeId
with_node n nodes = insert nodes n.number n.node

-- by Node-ID the numbers of nodes
unfoldable pub numbers_in : List DeclaredNode → FinMap nat_cmp ℕ
numbers_in [] = empty
numbers_in (n ∷ ns) = with_number n (numbers_in ns)

-- by number the Node-IDs of nodes
unfoldable pub nodes_in : List DeclaredNode → FinMap nat_cmp NodeId
nodes_in [] = empty
nodes_in (n ∷ ns) = with_node n (nodes_in ns)

-- Both indexes are those of the names.
pub record IsIndexed (names : List DeclaredNode) (numbers : FinMap nat_cmp ℕ)
    (nodes : FinMap nat_cmp NodeId) : Type 0 where
  pub by_id : numbers ≡ numbers_in names
  pub by_number : nodes ≡ nodes_in names
