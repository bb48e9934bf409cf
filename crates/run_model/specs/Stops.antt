-- What stops a run: an air that is full, and a node that handled all that it may.
use Rattle.std.specs.Prelude.{◌≡◌, ℕ, ◌+◌, ◌-◌, ◌<◌, ◌≤◌, ◌&&◌, Bool, true, false, not, List, length, map, take, position, slice_get, Option, Some, None, if◌then◌else◌}
use Rattle.std.specs.Option.{option_and_then}
use Rattle.std.specs.FinMap.{get}
use Rattle.reload_base.specs.declared.air.AirFrame.{AirFrame}
use Rattle.node_messages.specs.Signed.{SignerWords}
use Rattle.node_model.specs.declared.limits.TheConstants.{MAX_LOAD}
use Rattle.node_model.specs.Peers as peers
use Rattle.node_model.specs.Clients as clients
use Rattle.run_model.specs.declared.limits.TheConstants.{MAX_AIR}
use Rattle.run_model.specs.declared.flight.Flight.{Flight}
use Rattle.run_model.specs.declared.moves.Move.{Move}
use Rattle.run_model.specs.declared.moves.Move.TheVariants.{Clock, Deliver, Lose, Drain, Ask}
use Rattle.run_model.specs.Worlds.{World, Actor, APeer, AClient, numbers_of, told_time, bytes_in}
use Rattle.run_model.specs.Moves.{is_waiting, is_hearing, is_frame, is_asked, drained, gone_on}

-- a frame, as what carries it has it
abbrev pub air_frame : Flight → AirFrame
air_frame f = record { from = f.sender; to = f.hearer; bytes = f.bytes }

-- all frames that were sent in a world
unfoldable pub frames_in : World → List AirFrame
frames_in w = map air_frame w.flights

-- the load of a node, 0 where there is none
abbrev pub load_of : Option Actor → ℕ
load_of None = 0
load_of (Some (APeer p)) = peers.load p
load_of (Some (AClient c)) = clients.load c

-- whether a node would ask something if it were told to: a client that isn't busy
abbrev pub is_ready : Option Actor → Bool
is_ready (Some (AClient c)) = not (clients.is_busy c)
is_ready _ = false

-- the node that hears the frame at a place, if one does
unfoldable pub hearer_at : ℕ → World → Option ℕ
hearer_at at w = option_and_then
    (λ f. if is_hearing (get w.actors f.hearer) then Some f.hearer else None)
    (slice_get w.flights at)

-- the node that an event other than a move of the clock has handle something next, if it does
abbrev pub next_actor : Move → World → Option ℕ
next_actor (Clock ms) w = None
next_actor (Deliver k) w = if is_frame k w then hearer_at (k - 1) w else None
next_actor (Lose k) w = None
next_actor (Drain n) w = option_and_then (λ at. hearer_at at w) (position is_waiting w.flights)
next_actor (Ask client peer command) w =
    if is_asked (get w.actors peer) && is_ready (get w.actors client) then Some client else None

-- how many frames an event delivers at the most, or 1 for any other
abbrev pub times_of : Move → ℕ
times_of (Drain n) = n
times_of _ = 1

-- the node with a number is to handle something in an event, and has handled all that it may: it is
-- to be told of the time, after the nodes before it, or it is to handle something else, after as many
-- frames of a drain as there were before
abbrev pub IsNodeFull : SignerWords → Move → World → ℕ → Type 0
IsNodeFull words (Clock ms) w number =
    let before : ℕ → World = λ k. (told_time words (take k (numbers_of w)) (gone_on ms w)).world in
    (k : ℕ) × (slice_get (numbers_of w) k ≡ Some number)
    × (MAX_LOAD ≤ load_of (get (before k).actors number))
IsNodeFull words move w number =
    (k : ℕ) × (k < times_of move)
    × (next_actor move (drained words k w).world ≡ Some number)
    × (MAX_LOAD ≤ load_of (get (drained words k w).world.actors number))

-- of the frames in a world the first that fit an air have b bytes, and one more doesn't fit
abbrev pub IsAirFull : World → ℕ → Type 0
IsAirFull w b =
    (k : ℕ) × (f : Flight) × (slice_get w.flights k ≡ Some f)
    × (bytes_in (take k w.flights) ≡ b) × (b ≤ MAX_AIR) × (MAX_AIR < b + length f.bytes)
