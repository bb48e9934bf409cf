-- When the transactions of a node are due, as its due list tells it.
use Rattle.std.specs.Prelude.{ℕ, ◌≡◌, ◌==◌, cond, List, Option, Some, None}
use Rattle.std.specs.Option.{option_map}
use Rattle.std.specs.List.{AllByRecursion}
use Rattle.std.specs.FinMap.{get}
use Rattle.due_list.specs.Entries.{Entry, entry_of}
use Rattle.transaction_table.specs.declared.outbox.Outbox.{Outbox}
use Rattle.transaction_table.specs.declared.outbox.Request.{Request}
use Rattle.transaction_table.specs.declared.spot.Spot.{Spot}
use Rattle.transaction_table.specs.declared.spot.Spot.TheVariants.{Head, Issued}
use Rattle.transaction_table.specs.declared.spot.Timer.{Timer}
use Rattle.transaction_table.specs.Tables.{Txns, messages}

-- when something is due, and the peer whose outbox it heads, if it is a head
abbrev pub Time : Type 0
Time = ℕ × Option ℕ

-- when an id is due
abbrev pub time_of : ℕ → List Entry → Option Time
time_of id es = option_map (λ e. (e.due, e.owner)) (entry_of id es)

-- where a transaction stands: it heads the outbox to its owner, or has none
abbrev pub spot_for : ℕ → Option ℕ → Spot
spot_for id None = Issued id
spot_for id (Some peer) = Head peer

-- what is due, as a timer
abbrev pub timer_at : ℕ × ℕ × Option ℕ → Timer
timer_at x = record { due = x.0; id = x.1; spot = spot_for x.1 x.2 }

-- when an id is due once another one ended, and the next one, if there is one, was sent
abbrev pub passed : ℕ → Option ℕ → Time → ℕ → Option Time → Option Time
passed ended None x id there = cond (ended == id) None there
passed ended (Some next) x id there = cond (next == id) (Some x) (cond (ended == id) None there)

-- an outstanding transaction has the id: the head of the outbox to a peer, or a request outside
abbrev pub IsThere : ℕ → Option ℕ → Txns → Type 0
IsThere id None t = (r : Request) × (get t.issued id ≡ Some r)
IsThere id (Some peer) t = (o : Outbox) × (get t.outboxes peer ≡ Some o) × (o.head.id ≡ id)

-- each outstanding transaction is due when the times say it, and nothing else is; and each message
-- of an outbox is to the peer that its id has
pub record AreTimed (peer_of : ℕ → ℕ) (times : ℕ → Option Time) (t : Txns) : Type 0 where
  pub heads : (peer : ℕ) (o : Outbox) → get t.outboxes peer ≡ Some o
      → times o.head.id ≡ Some (o.due, Some peer)
  pub requests : (id : ℕ) (r : Request) → get t.issued id ≡ Some r
      → (r.message.id ≡ id) × (times id ≡ Some (r.due, None))
  pub only : (id : ℕ) (x : Time) → times id ≡ Some x → IsThere id x.1 t
  pub owned : (peer : ℕ) (o : Outbox) → get t.outboxes peer ≡ Some o
      → AllByRecursion (λ m. peer_of m.id ≡ peer) (messages o)

-- a due list has an entry for each outstanding transaction, and no other
abbrev pub IsListed : List Entry → Txns → Type 0
IsListed es t = (peer_of : ℕ → ℕ) × AreTimed peer_of (λ id. time_of id es) t
