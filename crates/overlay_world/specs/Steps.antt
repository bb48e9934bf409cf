-- What an event may do, and whom a client asks.
use Rattle.std.specs.Prelude.{ℕ, ◌+◌, ◌<◌, ◌^◌, Bool, true, false, Option, Some, None, Result, Ok, Err, if◌then◌else◌}
use Rattle.std.specs.Option.{option_map_or}
use Rattle.std.specs.FinMap.{get}
use Rattle.reload_ids.specs.declared.NodeId.{NodeId}
use Rattle.node_model.specs.Clients.{is_busy}
use Rattle.run_model.specs.declared.happening.Happening.{Happening}
use Rattle.run_model.specs.declared.happening.Happening.TheVariants.{UnknownNode, Busy}
use Rattle.run_model.specs.declared.moves.Move.{Move}
use Rattle.run_model.specs.declared.moves.Move.TheVariants.{Clock}
use Rattle.run_model.specs.Worlds.{World, Actor, AClient, node_of}
use Rattle.run_model.specs.Moves.{is_asked}

-- the clock stays below 2^62 ms in an event
abbrev pub IsInTime : Move → World → Type 0
IsInTime (Clock ms) w = w.clock + ms < 2 ^ 62
IsInTime _ w = Unit {0}

-- whether a client is busy, none where a node isn't a client
abbrev pub busy_in : Option Actor → Option Bool
busy_in (Some (AClient c)) = Some (is_busy c)
busy_in _ = None

-- the peer that a client asks, by whether it is busy, or why the event at a line is refused
abbrev pub asked_unless : ℕ → NodeId → Option Bool → Result NodeId Happening
asked_unless line id None = Err (UnknownNode line)
asked_unless line id (Some true) = Err (Busy line)
asked_unless line id (Some false) = Ok id

-- the peer that a client asks, or why the event at a line is refused
unfoldable pub asked_by : ℕ → ℕ → ℕ → World → Result NodeId Happening
asked_by line client peer w =
    if is_asked (get w.actors peer)
    then option_map_or (λ id. asked_unless line id (busy_in (get w.actors client)))
    (node_of w.names peer) (Err (UnknownNode line))
    else Err (UnknownNode line)
