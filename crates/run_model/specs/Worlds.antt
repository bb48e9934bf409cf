-- A world: its nodes, the frames that they sent, and what a node makes of it.
use Rattle.std.specs.Prelude.{◌≢◌, ℕ, ◌^◌, ◌<◌, ◌==◌, ◌&&◌, Bool, true, false, List, [], ◌∷◌, ◌++◌, length, map, filter, find, sum_by, Option, Some, None}
use Rattle.std.specs.Option.{option_map, option_map_or}
use Rattle.std.specs.List.{list_all, AllByRecursion}
use Rattle.std.specs.Ordering.{nat_cmp}
use Rattle.std.specs.FinMap.{FinMap, get, insert, empty, entries}
use Rattle.reload_ids.specs.declared.NodeId.{NodeId}
use Rattle.data_models.specs.declared.config.Config.{Config}
use Rattle.security_block.specs.declared.about.About.{About}
use Rattle.chord_tables.specs.Tables.{Tables, alone, merged}
use Rattle.request_words.specs.declared.node.DeclaredNode.{DeclaredNode}
use Rattle.request_words.specs.declared.node.Role.{Role}
use Rattle.request_words.specs.declared.node.Role.TheVariants as roles
use Rattle.request_words.specs.Nodes.{is_role}
use Rattle.node_messages.specs.Signed.{SignerWords}
use Rattle.node_model.specs.declared.peer_state.PeerState.{PeerState}
use Rattle.node_model.specs.declared.peer_state.PeerState.TheVariants as states
use Rattle.node_model.specs.Links.{Sent}
use Rattle.node_model.specs.Nodes.{Step, Cause, Clocked}
use Rattle.node_model.specs.Peers.{Peer, Member, state_of, new_peer, peer_step}
use Rattle.node_model.specs.Peers as peers
use Rattle.node_model.specs.Clients.{Client, new_client, client_step}
use Rattle.run_model.specs.declared.flight.Flight.{Flight}
use Rattle.run_model.specs.declared.flight.Fate.TheVariants.{Waiting}
use Rattle.run_model.specs.declared.happening.Happening.{Happening}
use Rattle.run_model.specs.declared.happening.Happening.TheVariants.{Tells}

-- a node that does something
pub data Actor : Type 0 where
  APeer : Peer → Actor
  AClient : Client → Actor

-- a world: the clock in ms, the configuration, the names of its nodes, the nodes by number, the
-- numbers of those that failed, and the frames ever sent, the first of which has number 1
pub record World : Type 0 where
  pub clock : ℕ
  pub config : Config
  pub names : List DeclaredNode
  pub actors : FinMap nat_cmp Actor
  pub failed : List ℕ
  pub flights : List Flight

-- ---- the first world

-- the ids of the peers that are declared
unfoldable pub peers_in : List DeclaredNode → List ℕ
peers_in names = map (λ n. n.node.0) (filter (λ n. is_role roles.Peer n.role) names)

-- whom a node's certificate is about: only a peer has the role of one
abbrev pub about_of : DeclaredNode → About
about_of n = record { peer = is_role roles.Peer n.role; node = n.node; user = n.user }

-- the tables of a peer that knows all others
abbrev pub exact_tables : List ℕ → ℕ → Tables
exact_tables ids me = merged ids (alone me)

-- a declared node at the beginning, a peer with exact tables; a hostile node does nothing itself
abbrev pub actor_of : Config → List ℕ → DeclaredNode → Role → Option Actor
actor_of config ids n roles.Peer =
    Some (APeer (new_peer n.number (about_of n) config (Member 0) (exact_tables ids n.node.0)))
actor_of config ids n roles.Client = Some (AClient (new_client n.number (about_of n) config))
actor_of config ids n roles.Hostile = None

-- nodes by number
unfoldable pub actors_of : Config → List ℕ → List DeclaredNode → FinMap nat_cmp Actor
actors_of config ids [] = empty
actors_of config ids (n ∷ ns) =
    option_map_or (insert (actors_of config ids ns) n.number) (actor_of config ids n n.role)
    (actors_of config ids ns)

-- the world before the first event: the declared nodes, no record and no frame
unfoldable pub first_world : Config → List DeclaredNode → World
first_world config names = record {
  clock = 0;
  config = config;
  names = names;
  actors = actors_of config (peers_in names) names;
  failed = [];
  flights = [];
}

-- ---- names and numbers

-- the number of the node with a Node-ID, or 0 where no node has it
unfoldable pub number_of : List DeclaredNode → ℕ → ℕ
number_of names id =
    option_map_or (λ n. n.number) (find (λ n. n.node.0 == id) names) 0

-- the Node-ID of the node with a number
unfoldable pub node_of : List DeclaredNode → ℕ → Option NodeId
node_of names number =
    option_map (λ n. n.node) (find (λ n. n.number == number) names)

-- no two nodes have one number or one Node-ID, and each Node-ID is an id
abbrev pub AreApart : List DeclaredNode → Type 0
AreApart [] = Unit {0}
AreApart (n ∷ ns) =
    (n.node.0 < 2 ^ 128)
    × AllByRecursion (λ o. (o.number ≢ n.number) × (o.node.0 ≢ n.node.0)) ns
    × AreApart ns

-- ---- what happens

-- a world after a part of an event, and what happened
pub record Done : Type 0 where
  pub world : World
  pub happened : List Happening

-- nothing happens
abbrev pub quiet : World → Done
quiet w = record { world = w; happened = [] }

-- an event that is refused: nothing else changes
abbrev pub refused : World → Happening → Done
refused w why = record { world = w; happened = why ∷ [] }

-- one after the other
abbrev pub then_on : Done → (World → Done) → Done
then_on first later =
    let last = later first.world in
    record { world = last.world; happened = first.happened ++ last.happened }

-- what an input makes of a node at a clock
abbrev pub acts : SignerWords → ℕ → Cause → Actor → Step Actor
acts words now cause (APeer p) =
    let s = peer_step words now cause p in
    record { node = APeer s.node; outputs = s.outputs }
acts words now cause (AClient c) =
    let s = client_step words now cause c in
    record { node = AClient s.node; outputs = s.outputs }

-- a frame that a node sent, as it flies
abbrev pub flight_of : List DeclaredNode → ℕ → Sent → Flight
flight_of names from f = record {
  sender = from;
  hearer = number_of names f.0.0;
  bytes = f.1;
  fate = Waiting;
}

-- the world after a step of the node with a number
unfoldable pub after_step : ℕ → World → Step Actor → Done
after_step number w s = record {
  world = record w {
    actors = insert w.actors number s.node;
    flights = w.flights ++ map (flight_of w.names number) s.outputs.frames;
  };
  happened = map (Tells number) s.outputs.notices;
}

-- the node with a number handles an input, where there is one
unfoldable pub handled : SignerWords → ℕ → Cause → World → Done
handled words number cause w =
    option_map_or (λ a. after_step number w (acts words w.clock cause a)) (get w.actors number)
    (quiet w)

-- the numbers of the nodes, rising
unfoldable pub numbers_of : World → List ℕ
numbers_of w = map (λ a. a.0) (entries w.actors)

-- nodes are told of the time, one after the other
unfoldable pub told_time : SignerWords → List ℕ → World → Done
told_time words [] w = quiet w
told_time words (n ∷ ns) w = then_on (handled words n Clocked w) (told_time words ns)

-- ---- settled

-- whether a peer is part of the overlay, or gone
abbrev pub is_settled_state : PeerState → Bool
is_settled_state states.Member = true
is_settled_state states.Gone = true
is_settled_state _ = false

-- whether nothing of a node is under way; what clients wait for doesn't count
abbrev pub is_still : Actor → Bool
is_still (APeer p) = is_settled_state (state_of p.membership) && peers.is_idle p
is_still (AClient c) = true

-- whether a world is settled: no peer comes or goes, and nothing that a peer sent waits for an
-- answer
unfoldable pub is_settled : World → Bool
is_settled w = list_all (λ a. is_still a.1) (entries w.actors)

-- how many bytes some frames have together
unfoldable pub bytes_in : List Flight → ℕ
bytes_in flights = sum_by (λ f. length f.bytes) flights
