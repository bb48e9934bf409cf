-- A node that does something, as the meaning of runs has it.
use Rattle.std.specs.Prelude.{◌≡◌, ℕ, ◌<◌, ◌^◌, ◌⊎◌, List, Option, Some, None, refl}
use Rattle.std.specs.List.{AllByRecursion}
use Rattle.std.proofs.Common.{inl, inr}
use Rattle.std.specs.Ordering.{nat_cmp}
use Rattle.std.specs.FinMap as map
use Rattle.std.specs.Coded.{Coded, code_by, coded⊎, coded_ℕ}
use Rattle.node_model.specs.Peers.{Peer}
use Rattle.node_model.specs.Clients.{Client}
use Rattle.overlay_peer.specs.Kept.{peer_code}
use Rattle.overlay_client.specs.Sound.{client_code}
use Rattle.run_model.specs.Worlds.{Actor, APeer, AClient}
use Rattle.overlay_world.specs.declared.actor.Kind.{Kind}
use Rattle.overlay_world.specs.declared.actor.Kind.TheVariants as kinds

-- a node of either kind
abbrev pub actor_of_kind : Kind → Actor
actor_of_kind (kinds.Peer p) = APeer p
actor_of_kind (kinds.Client c) = AClient c

-- the peer that a node is, if it is one
abbrev pub peer_in : Actor → Option Peer
peer_in (APeer p) = Some p
peer_in (AClient c) = None

-- the client that a node is, if it is one
abbrev pub client_in : Actor → Option Client
client_in (APeer p) = None
client_in (AClient c) = Some c

-- a node as one or the other
abbrev pub part_of : Actor → Peer ⊎ Client
part_of (APeer p) = inl p
part_of (AClient c) = inr c

-- the node of these
abbrev pub of_part : Peer ⊎ Client → Actor
of_part (inl p) = APeer p
of_part (inr c) = AClient c

-- the one gives the other back
abbrev pub of_part-part_of : (a : Actor) → of_part (part_of a) ≡ a
of_part-part_of (APeer p) = refl
of_part-part_of (AClient c) = refl

-- a node as these
abbrev pub actor_code : Coded Actor
actor_code =
    code_by (Peer ⊎ Client) (coded⊎ peer_code client_code) part_of of_part of_part-part_of

-- nodes by number
abbrev pub actors_code : Coded (map.FinMap nat_cmp Actor)
actors_code = map.code coded_ℕ actor_code

-- the keys of rows are numbers of nodes
abbrev pub AreNumbers : List (ℕ × Actor) → Type 0
AreNumbers rows = AllByRecursion (λ row. row.0 < 2 ^ 32) rows
