-- What each event of a run makes of a world.
use Rattle.std.specs.Prelude.{ℕ, zero, suc, ◌+◌, ◌-◌, ◌==◌, ◌||◌, Bool, true, false, not, nat_lt, length, position, slice_get, slice_set, Option, Some, None, if◌then◌else◌}
use Rattle.std.specs.Option.{option_map_or}
use Rattle.std.specs.FinMap.{get}
use Rattle.reload_ids.specs.declared.NodeId.{NodeId}
use Rattle.node_messages.specs.Signed.{SignerWords}
use Rattle.node_model.specs.declared.command.Command.{Command}
use Rattle.node_model.specs.declared.command.Command.TheVariants as commands
use Rattle.node_model.specs.declared.peer_state.PeerState.TheVariants as states
use Rattle.node_model.specs.Nodes.{Framed, Commanded}
use Rattle.node_model.specs.Peers.{state_of}
use Rattle.node_model.specs.Clients.{is_busy}
use Rattle.run_model.specs.declared.flight.Flight.{Flight}
use Rattle.run_model.specs.declared.flight.Fate.{Fate}
use Rattle.run_model.specs.declared.flight.Fate.TheVariants.{Waiting, Delivered, Lost}
use Rattle.run_model.specs.declared.moves.Move.{Move}
use Rattle.run_model.specs.declared.moves.Move.TheVariants.{Clock, Deliver, Lose, Drain, Ask}
use Rattle.run_model.specs.declared.happening.Happening.TheVariants.{NoSuchFrame, UnknownNode, Busy}
use Rattle.run_model.specs.Worlds.{World, Actor, APeer, AClient, Done, quiet, refused, then_on, handled, node_of, numbers_of, told_time}

-- ---- frames

-- a frame with another fate
abbrev pub with_fate : Fate → ℕ → Flight → World → World
with_fate fate at f w = record w { flights = slice_set w.flights at (record f { fate = fate }) }

-- whether a frame waits
abbrev pub is_waiting : Flight → Bool
is_waiting f = elim (f.fate) [ Waiting ↦ true | Delivered ↦ false | Lost ↦ false ]

-- whether a node hears what comes to it: a client, and a peer that isn't gone
abbrev pub is_hearing : Option Actor → Bool
is_hearing None = false
is_hearing (Some (AClient c)) = true
is_hearing (Some (APeer p)) = elim (state_of p.membership) [ states.Gone ↦ false | _ ↦ true ]

-- the frame at a place is lost, unless it was delivered
unfoldable pub lost_at : ℕ → World → World
lost_at at w =
    option_map_or (λ f. if is_waiting f then with_fate Lost at f w else w)
    (slice_get w.flights at) w

-- the frame at a place is heard by its node, or lost where no node hears it
unfoldable pub flown : SignerWords → ℕ → Flight → World → Done
flown words at f w =
    if is_hearing (get w.actors f.hearer)
    then option_map_or
    (λ from. handled words f.hearer (Framed from f.bytes) (with_fate Delivered at f w))
    (node_of w.names f.sender)
    (quiet w)
    else quiet (lost_at at w)

-- the same for the frame at a place, where there is one
unfoldable pub flown_at : SignerWords → ℕ → World → Done
flown_at words at w = option_map_or (λ f. flown words at f w) (slice_get w.flights at) (quiet w)

-- whether frame K was sent, counted from 1
abbrev pub is_frame : ℕ → World → Bool
is_frame k w = not ((k == 0) || nat_lt (length w.flights) k)

-- frame K is delivered, whatever became of it before
unfoldable pub delivered : SignerWords → ℕ → ℕ → World → Done
delivered words line k w =
    if is_frame k w then flown_at words (k - 1) w else refused w (NoSuchFrame line)

-- frame K is lost, unless it was delivered
unfoldable pub lost : ℕ → ℕ → World → Done
lost line k w =
    if is_frame k w then quiet (lost_at (k - 1) w) else refused w (NoSuchFrame line)

-- the lowest frame that waits is delivered: so many times, or until there is none
unfoldable pub drained : SignerWords → ℕ → World → Done
drained words zero w = quiet w
drained words (suc n) w =
    option_map_or (λ at. then_on (flown_at words at w) (drained words n))
    (position is_waiting w.flights) (quiet w)

-- ---- requests

-- whether a peer takes requests of clients
abbrev pub is_asked : Option Actor → Bool
is_asked (Some (APeer p)) = elim (state_of p.membership) [
  | states.Member ↦ true
  | states.Admitting ↦ true
  | states.Leaving ↦ true
  | _ ↦ false
]
is_asked _ = false

-- a client is told to ask something, unless it is busy; anyone else doesn't ask
abbrev pub told_by : SignerWords → ℕ → ℕ → Command → World → Option Actor → Done
told_by words line client command w (Some (AClient c)) =
    if is_busy c then refused w (Busy line) else handled words client (Commanded command) w
told_by words line client command w _ = refused w (UnknownNode line)

-- a client is told to ask something of a peer: both must be there, and the client not busy
unfoldable pub told : SignerWords → ℕ → ℕ → ℕ → (NodeId → Command) → World → Done
told words line client peer command w =
    if is_asked (get w.actors peer)
    then option_map_or (λ id. told_by words line client (command id) w (get w.actors client))
    (node_of w.names peer)
    (refused w (UnknownNode line))
    else refused w (UnknownNode line)

-- ---- the clock

-- the clock goes on by so many milliseconds
abbrev pub gone_on : ℕ → World → World
gone_on ms w = record w { clock = w.clock + ms }

-- the clock goes on, and each node is told of it, by rising number
unfoldable pub clocked : SignerWords → ℕ → World → Done
clocked words ms w = told_time words (numbers_of w) (gone_on ms w)

-- ---- events

-- a command to the peer with a Node-ID
abbrev pub aimed : Command → NodeId → Command
aimed (commands.Store c) peer = commands.Store (record c { peer = peer })
aimed (commands.Fetch c) peer = commands.Fetch (record c { peer = peer })

-- what the event of a line makes of a world
abbrev pub moved : SignerWords → ℕ → Move → World → Done
moved words line (Clock ms) w = clocked words ms w
moved words line (Deliver k) w = delivered words line k w
moved words line (Lose k) w = lost line k w
moved words line (Drain n) w = drained words n w
moved words line (Ask client peer command) w = told words line client peer (aimed command) w
