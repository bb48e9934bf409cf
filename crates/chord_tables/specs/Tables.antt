-- What a peer knows of other nodes (RFC 6940, 10.1 and 10.7), as lists of ids.
use Rattle.std.specs.Prelude.{ℕ, ◌==◌, Bool, true, List, [], ◌++◌, take, map, replicate, slice_get, slice_set, Option, Some, None, if◌then◌else◌}
use Rattle.std.specs.Option.{option_map, option_map_or, option_and_then}
use Rattle.std.specs.List.{list_any, filter_map}
use Rattle.reload_ids.specs.declared.NodeId.{NodeId}
use Rattle.reload_ids.specs.Ring.{between}
use Rattle.chord_tables.specs.declared.TheConstants.{FINGERS}
use Rattle.chord_tables.specs.Neighbours.{put_by, without, predecessors_of, successors_of}

-- the numbers of Node-IDs
abbrev pub ids : List NodeId → List ℕ
ids nodes = map (λ n. n.0) nodes

-- the number of a Node-ID, where there is one
abbrev pub number : Option NodeId → Option ℕ
number node = option_map (λ n. n.0) node

-- a peer's id and its five tables: its neighbours on both sides, the nearest first; the peer that
-- answers for the target of each finger, where one is known; its friends and users, rising
pub record Tables : Type 0 where
  pub me : ℕ
  pub predecessors : List ℕ
  pub successors : List ℕ
  pub fingers : List (Option ℕ)
  pub friends : List ℕ
  pub users : List ℕ

-- a peer that knows nobody
abbrev pub alone : ℕ → Tables
alone me = record {
  me = me;
  predecessors = [];
  successors = [];
  fingers = replicate FINGERS None;
  friends = [];
  users = [];
}

-- the neighbours are the nearest of those on both sides and of others
unfoldable pub merged : List ℕ → Tables → Tables
merged others t =
    let known = t.predecessors ++ t.successors ++ others in
    record t { predecessors = predecessors_of t.me known; successors = successors_of t.me known }

-- a finger that isn't a node
abbrev pub spared : ℕ → Option ℕ → Option ℕ
spared id finger = option_and_then (λ x. if x == id then None else Some x) finger

-- a node is taken out of all five
unfoldable pub removed : ℕ → Tables → Tables
removed id t = record t {
  predecessors = without id t.predecessors;
  successors = without id t.successors;
  fingers = map (spared id) t.fingers;
  friends = without id t.friends;
  users = without id t.users;
}

-- a finger is set, or cleared
abbrev pub with_finger : ℕ → Option ℕ → Tables → Tables
with_finger i id t = record t { fingers = slice_set t.fingers i id }

-- a node becomes a friend, and a user
abbrev pub with_friend : ℕ → Tables → Tables
with_friend id t = record t { friends = put_by (λ x. x) id t.friends }

abbrev pub with_user : ℕ → Tables → Tables
with_user id t = record t { users = put_by (λ x. x) id t.users }

-- whether an id lies behind the first predecessor, up to the peer itself; without one all do
-- (RFC 6940, 10.1)
unfoldable pub owns : Tables → ℕ → Bool
owns t k = option_map_or (λ first. between first k t.me) (slice_get t.predecessors 0) true

-- who holds replicas: the first so many successors, or as many as there are (RFC 6940, 10.4)
abbrev pub mirrors : ℕ → Tables → List ℕ
mirrors replicas t = take replicas t.successors

-- whether one of the five tables names an id
unfoldable pub names : ℕ → Tables → Bool
names id t =
    list_any (λ x. x == id) (t.predecessors ++ t.successors
    ++ filter_map (λ finger. finger) t.fingers ++ t.friends ++ t.users)
