-- Where a peer sends what is for an id (RFC 6940, 10.3).
use Rattle.std.specs.Prelude.{ℕ, ◌&&◌, Bool, List, ◌++◌, filter, slice_get, Option, Some, None, if◌then◌else◌}
use Rattle.std.specs.Option.{option_map_or, option_or}
use Rattle.std.specs.List.{last_or, filter_map}
use Rattle.reload_ids.specs.Ring.{distance, between}
use Rattle.chord_tables.specs.Neighbours.{by_way}
use Rattle.chord_tables.specs.Tables.{Tables, owns}
use Rattle.peer_routing.specs.declared.Hop.{Hop}
use Rattle.peer_routing.specs.declared.Hop.TheVariants.{Here, To, NoRoute}

-- the peers that a peer routes by: its neighbours, and its fingers
unfoldable pub known : Tables → List ℕ
known t = t.predecessors ++ t.successors ++ filter_map (λ finger. finger) t.fingers

-- the first predecessor, where an id lies behind the second, up to the first: that one owns it
-- (this profile)
unfoldable pub owning_predecessor : Tables → ℕ → Option ℕ
owning_predecessor t k =
    option_map_or
    (λ second. option_map_or
    (λ first. if between second k first then Some first else None)
    (slice_get t.predecessors 0)
    None)
    (slice_get t.predecessors 1)
    None

-- of those up to an id, the farthest
unfoldable pub farthest_up_to : ℕ → ℕ → List ℕ → Option ℕ
farthest_up_to me k nodes =
    last_or None (by_way (λ x. distance me x) (filter (λ x. between me x k) nodes))

-- the nearest from an id on
unfoldable pub nearest_from : ℕ → List ℕ → Option ℕ
nearest_from k nodes = slice_get (by_way (λ x. distance k x) nodes) 0

-- to a node, where there is one
abbrev pub to : Option ℕ → Hop
to next = option_map_or (λ x. To (record { 0 = x })) next NoRoute

-- the next hop of a request for an id: here where this peer owns it, else the first that there is
-- of the predecessor that owns it, the farthest up to it, and the nearest from it on
unfoldable pub next_hop : Tables → Bool → ℕ → Hop
next_hop t owning k =
    if owning && owns t k then Here
    else to (option_or (owning_predecessor t k)
    (option_or (farthest_up_to t.me k (known t)) (nearest_from k (known t))))
