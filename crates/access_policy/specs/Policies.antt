-- Who may store where (RFC 6940, 7.3).
use Rattle.std.specs.Prelude.{ℕ, zero, suc, ◌==◌, ◌&&◌, ◌||◌, Bool, false, List, ◌++◌}
use Rattle.std.specs.Int.{w32, w128, to_be_bytes}
use Rattle.std.specs.Str.{bytes_eq}
use Rattle.reload_ids.specs.Ids.{resource_id}
use Rattle.access_policy.specs.declared.Policy.{Policy}
use Rattle.access_policy.specs.declared.Policy.TheVariants.{UserMatch, NodeMatch, UserNodeMatch, NodeMultiple}

-- the 16 bytes of a Node-ID, the highest first
unfoldable pub node_bytes : ℕ → List ℕ
node_bytes node = to_be_bytes w128 node

-- the user's name hashes to the resource (7.3.1)
unfoldable pub user_match : ℕ → List ℕ → Bool
user_match resource user = resource_id user == resource

-- the Node-ID hashes to the resource (7.3.2)
unfoldable pub node_match : ℕ → ℕ → Bool
node_match resource node = resource_id (node_bytes node) == resource

-- the Node-ID with this number of 4 bytes behind it hashes to the resource (7.3.4)
unfoldable pub numbered_match : ℕ → ℕ → ℕ → Bool
numbered_match resource node i = resource_id (node_bytes node ++ to_be_bytes w32 i) == resource

-- some number from 1 to n passes the test
unfoldable pub some_from_one : (ℕ → Bool) → ℕ → Bool
some_from_one test zero = false
some_from_one test (suc n) = some_from_one test n || test (suc n)

-- whether a policy permits a user's node to store under a key at a resource
unfoldable pub permits : Policy → ℕ → ℕ → List ℕ → List ℕ → ℕ → Bool
permits UserMatch multiple resource key user node = user_match resource user
permits NodeMatch multiple resource key user node = node_match resource node
permits UserNodeMatch multiple resource key user node =
    user_match resource user && bytes_eq key (node_bytes node)
permits NodeMultiple multiple resource key user node =
    some_from_one (numbered_match resource node) multiple
