-- What becomes of a request that a peer hears (RFC 6940, 6.1.1 and 6.1.2), by the first case.
use Rattle.std.specs.Prelude.{ℕ, ◌-◌, ◌==◌, ◌&&◌, Bool, true, false, not, List, [], ◌∷◌, ◌++◌, nat_lt, nat_le, if◌then◌else◌}
use Rattle.std.specs.List.{list_any}
use Rattle.reload_ids.specs.declared.NodeId.{NodeId}
use Rattle.chord_tables.specs.Tables.{Tables, owns}
use Rattle.peer_routing.specs.declared.Hop.{Hop}
use Rattle.peer_routing.specs.declared.Hop.TheVariants as hops
use Rattle.peer_routing.specs.Routes.{next_hop}
use Rattle.forwarding_header.specs.declared.header.Header.{Header}
use Rattle.forwarding_header.specs.declared.destination.Destination.{Destination}
use Rattle.forwarding_header.specs.declared.destination.Destination.TheVariants as to
use Rattle.forwarding_header.specs.declared.forwarding_option.TheConstants.{FORWARD_CRITICAL}
use Rattle.storage_model.specs.declared.refusal.Refusal.TheVariants.{NotFound, UnsupportedForwardingOption, TtlExceeded, MessageTooLarge, InvalidMessage}
use Rattle.node_model.specs.declared.course.Course.{Course}
use Rattle.node_model.specs.declared.course.Course.TheVariants.{Dropped, Refused, Here, Owned, Forwarded}
use Rattle.node_model.specs.declared.peer_state.PeerState.{PeerState}
use Rattle.node_model.specs.declared.peer_state.PeerState.TheVariants as states
use Rattle.node_model.specs.declared.limits.TheConstants.{MAX_REQUEST}
use Rattle.node_model.specs.Heard.{ttl_of}
use Rattle.node_model.specs.Ways.{is_node, has_flag}

-- whether a destination list is a node's own id and nothing more
abbrev pub is_alone : ℕ → List Destination → Bool
is_alone me (first ∷ []) = is_node me first
is_alone me _ = false

-- a destination list without the leading entries of a node itself behind which more follow
unfoldable pub without_own : ℕ → List Destination → List Destination
without_own me [] = []
without_own me (first ∷ []) = first ∷ []
without_own me (first ∷ next ∷ rest) =
    if is_node me first then without_own me (next ∷ rest) else first ∷ next ∷ rest

-- the header with which a request that came from a node goes on to this destination list
unfoldable pub onward : NodeId → Header → List Destination → Header
onward from h dest =
    record h { ttl = ttl_of h - 1; via = h.via ++ to.Node from ∷ []; dest = dest }

-- to the next hop, where there is one
abbrev pub sent_on : Hop → Header → Course
sent_on (hops.To next) h = Forwarded next h
sent_on hops.Here h = Dropped
sent_on hops.NoRoute h = Dropped

-- a request for an id that this peer doesn't own goes on, unless an option or its TTL forbids it
unfoldable pub forwarded : NodeId → Tables → Bool → Header → List Destination → ℕ → Course
forwarded from t owning h dest id =
    if list_any (has_flag FORWARD_CRITICAL) h.options then Refused UnsupportedForwardingOption
    else (if nat_le (ttl_of h) 1 then Refused TtlExceeded
    else sent_on (next_hop t owning id) (onward from h dest))

-- the course of a request by its destination list without the peer's own leading entries
abbrev pub course_to : NodeId → Tables → Bool → Header → List Destination → Course
course_to from t owning h [] = Refused InvalidMessage
course_to from t owning h (to.Opaque bytes ∷ rest) = Refused InvalidMessage
course_to from t owning h (to.Short n ∷ rest) = Refused InvalidMessage
course_to from t owning h (to.Node node ∷ rest) =
    if node.0 == t.me then Here
    else (if owning && owns t node.0 then Refused NotFound
    else forwarded from t owning h (to.Node node ∷ rest) node.0)
course_to from t owning h (to.Resource resource ∷ []) =
    if owning && owns t resource.0 then Owned resource
    else forwarded from t owning h (to.Resource resource ∷ []) resource.0
course_to from t owning h (to.Resource resource ∷ next ∷ rest) =
    if owning && owns t resource.0 then Refused InvalidMessage
    else forwarded from t owning h (to.Resource resource ∷ next ∷ rest) resource.0

-- whether a peer in this state owns ids
abbrev pub is_owning : PeerState → Bool
is_owning states.Member = true
is_owning states.Admitting = true
is_owning _ = false

-- the course of a request of so many bytes at a peer that is part of the overlay
unfoldable pub course_in_ring : NodeId → Tables → Bool → ℕ → Header → Course
course_in_ring from t owning size h =
    if nat_lt MAX_REQUEST size && not (is_alone t.me h.dest) then Refused MessageTooLarge
    else course_to from t owning h (without_own t.me h.dest)

-- the course of a request of so many bytes that a peer hears from a node
abbrev pub course : NodeId → Tables → PeerState → ℕ → Header → Course
course from t states.Seeking size h = if is_alone t.me h.dest then Here else Dropped
course from t states.Gone size h = Dropped
course from t state size h = course_in_ring from t (is_owning state) size h
