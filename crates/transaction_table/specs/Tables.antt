-- The transactions of a node: its outboxes, and its own requests outside them.
use Rattle.std.specs.Prelude.{ℕ, zero, suc, ◌≡◌, ◌==◌, nat_lt, nat_le, Bool, cond, ◌||◌, ◌&&◌, List, [], ◌∷◌, ◌++◌, map, length, Option, Some, None}
use Rattle.std.specs.Option.{option_map}
use Rattle.std.specs.List.{AllByRecursion}
use Rattle.std.specs.Ordering.{nat_cmp}
use Rattle.std.specs.FinMap.{FinMap, get, insert, remove, entries}
use Rattle.transaction_table.specs.declared.txn.Txn.{Txn}
use Rattle.transaction_table.specs.declared.txn.Queued.{Queued}
use Rattle.transaction_table.specs.declared.txn.Outstanding.{Outstanding}
use Rattle.transaction_table.specs.declared.again.Taken.{Taken}
use Rattle.transaction_table.specs.declared.again.Taken.TheVariants as taken
use Rattle.transaction_table.specs.declared.again.Ticked.{Ticked}
use Rattle.transaction_table.specs.declared.again.Ticked.TheVariants as tick
use Rattle.transaction_table.specs.declared.outbox.Message.{Message}
use Rattle.transaction_table.specs.declared.outbox.Outbox.{Outbox}
use Rattle.transaction_table.specs.declared.outbox.Request.{Request}
use Rattle.transaction_table.specs.declared.spot.Spot.{Spot}
use Rattle.transaction_table.specs.declared.spot.Spot.TheVariants.{Head, Issued}
use Rattle.transaction_table.specs.declared.spot.Timer.{Timer}
use Rattle.transaction_table.specs.Sends.{due_after, is_over, answered, timed_out}
use Rattle.transaction_table.specs.Outboxes.{opened, behind, again_outbox, again_request, changed, message_of, next_of, outstanding_of}

-- by Node-ID the outboxes that aren't empty
abbrev pub Outboxes : Type 0
Outboxes = FinMap nat_cmp Outbox

-- by transaction id the requests outside the outboxes
abbrev pub Requests : Type 0
Requests = FinMap nat_cmp Request

-- the transactions of a node
pub record Txns : Type 0 where
  pub outboxes : Outboxes
  pub issued : Requests

-- the messages of an outbox, the head first
abbrev pub messages : Outbox → List Message
messages o = o.head ∷ o.waiting

-- no message in the outbox has the id
abbrev pub HasNot : ℕ → Outbox → Type 0
HasNot id o = AllByRecursion (λ m. m.id ≡ id → ⊥) (messages o)

-- no two messages have one id
abbrev pub AreDistinct : List Message → Type 0
AreDistinct [] = Unit {0}
AreDistinct (m ∷ ms) = AllByRecursion (λ n. n.id ≡ m.id → ⊥) ms × AreDistinct ms

-- no two messages of an outbox have one id, and no request outside has one of theirs
abbrev pub IsApart : Requests → Outbox → Type 0
IsApart rs o = AreDistinct (messages o) × AllByRecursion (λ m. get rs m.id ≡ None) (messages o)

-- no message of an outbox has the id of another one of it, or of a request outside
pub record AreApart (t : Txns) : Type 0 where
  pub apart : (peer : ℕ) (o : Outbox) → get t.outboxes peer ≡ Some o → IsApart t.issued o

-- no transaction has the id
abbrev pub IsNew : ℕ → Txns → Type 0
IsNew id t =
    ((peer : ℕ) (o : Outbox) → get t.outboxes peer ≡ Some o → HasNot id o)
    × (get t.issued id ≡ None)

-- a transaction is queued: it is sent at once where the outbox is empty, and waits otherwise
abbrev pub queued : ℕ → Txn Queued → Txns → Txns
queued now x t = record t {
  outboxes = insert t.outboxes x.peer.0 (elim (get t.outboxes x.peer.0) [
    | None ↦ opened now (message_of x) []
    | Some o ↦ behind (message_of x) o
  ]);
}

-- a transaction is sent at once, outside the outboxes
abbrev pub issued : ℕ → Txn Queued → Txns → Txns
issued now x t = record t {
  issued = insert t.issued x.id (record {
    peer = x.peer;
    message = message_of x;
    sends = 1;
    due = due_after now;
  });
}

-- the head of an outbox as a transaction
abbrev pub head_txn : ℕ → Outbox → Txn Outstanding
head_txn peer o = outstanding_of (record { 0 = peer }) o.head o.sends o.due

-- a request outside the outboxes as a transaction
abbrev pub request_txn : Request → Txn Outstanding
request_txn r = outstanding_of r.peer r.message r.sends r.due

-- the outstanding transaction at a spot
abbrev pub txn_at : Spot → Txns → Option (Txn Outstanding)
txn_at (Head peer) t = option_map (head_txn peer) (get t.outboxes peer)
txn_at (Issued id) t = option_map request_txn (get t.issued id)

-- where a head has an id
abbrev pub head_spot : ℕ → ℕ → Option Outbox → Option Spot
head_spot peer id None = None
head_spot peer id (Some o) = cond (o.head.id == id) (Some (Head peer)) None

-- where a request was sent to a peer
abbrev pub request_spot : ℕ → ℕ → Option Request → Option Spot
request_spot peer id None = None
request_spot peer id (Some r) = cond (r.peer.0 == peer) (Some (Issued id)) None

-- the first of two spots that is there
abbrev pub either_spot : Option Spot → Option Spot → Option Spot
either_spot (Some s) other = Some s
either_spot None other = other

-- where the outstanding transaction with a peer and an id stands
abbrev pub spot_of : ℕ → ℕ → Txns → Option Spot
spot_of peer id t =
    either_spot (head_spot peer id (get t.outboxes peer))
    (request_spot peer id (get t.issued id))

-- the outstanding transaction with a peer and an id
abbrev pub outstanding : ℕ → ℕ → Txns → Option (Txn Outstanding)
outstanding peer id t = elim (spot_of peer id t) [ None ↦ None | Some s ↦ txn_at s t ]

-- the transaction at a spot ends; behind a head the next message of its outbox is sent
abbrev pub ended : ℕ → Spot → Txns → Txns
ended now (Head peer) t = record t { outboxes = next_of now peer t.outboxes (get t.outboxes peer) }
ended now (Issued id) t = record t { issued = remove t.issued id }

-- the transaction at a spot is sent again
abbrev pub repeated : ℕ → Spot → Txns → Txns
repeated now (Head peer) t =
    record t { outboxes = changed (again_outbox now) peer t.outboxes (get t.outboxes peer) }
repeated now (Issued id) t =
    record t { issued = changed (again_request now) id t.issued (get t.issued id) }

-- what an answer takes
abbrev pub taken_of : Option (Txn Outstanding) → Taken
taken_of None = taken.NotMine
taken_of (Some x) = taken.Taken (answered x)

-- an answer from a peer with an id ends the transaction that it answers
abbrev pub after_answer : ℕ → ℕ → ℕ → Txns → Txns
after_answer now peer id t = elim (spot_of peer id t) [ None ↦ t | Some s ↦ ended now s t ]

-- the outbox to a peer is forgotten
abbrev pub forgotten : ℕ → Txns → Txns
forgotten peer t = record t { outboxes = remove t.outboxes peer }

-- when the heads are due
abbrev pub head_timers : List (ℕ × Outbox) → List Timer
head_timers es = map (λ e. record { due = e.1.due; id = e.1.head.id; spot = Head e.0 }) es

-- when the requests outside the outboxes are due
abbrev pub request_timers : List (ℕ × Request) → List Timer
request_timers es =
    map (λ e. record { due = e.1.due; id = e.1.message.id; spot = Issued e.1.message.id }) es

-- when the outstanding transactions are due
abbrev pub timers : Txns → List Timer
timers t = head_timers (entries t.outboxes) ++ request_timers (entries t.issued)

-- the earlier timer goes first, and of two at one time the one with the lesser id
abbrev pub comes_before : Timer → Timer → Bool
comes_before a b = nat_lt a.due b.due || (a.due == b.due && nat_lt a.id b.id)

-- the first of a timer and another one
abbrev pub earlier : Option Timer → Timer → Option Timer
earlier None x = Some x
earlier (Some best) x = cond (comes_before x best) (Some x) (Some best)

-- the first of timers and of one before them
abbrev pub first_from : Option Timer → List Timer → Option Timer
first_from best [] = best
first_from best (x ∷ xs) = first_from (earlier best x) xs

-- where the first transaction stands that is due
abbrev pub due_spot : ℕ → Txns → Option Spot
due_spot now t = elim (first_from None (timers t)) [
  | None ↦ None
  | Some x ↦ cond (nat_le x.due now) (Some x.spot) None
]

-- what a tick does to a transaction that is due, and what it leaves
abbrev pub ticked_at : ℕ → Option ℕ → Txns → Spot → Option (Txn Outstanding) → Ticked × Txns
ticked_at now limit t s None = (tick.Idle, t)
ticked_at now limit t s (Some x) = cond (is_over limit x.sends)
    (tick.Over (timed_out x), ended now s t) (tick.Sent x.peer x.id, repeated now s t)

-- what a tick does, and what it leaves
abbrev pub ticked : ℕ → Option ℕ → Txns → Ticked × Txns
ticked now limit t = elim (due_spot now t) [
  | None ↦ (tick.Idle, t)
  | Some s ↦ ticked_at now limit t s (txn_at s t)
]

-- timers without those of an id
abbrev pub others : ℕ → List Timer → List Timer
others id [] = []
others id (x ∷ xs) = cond (x.id == id) (others id xs) (x ∷ others id xs)

-- where those of at most so many timers stand that are due, the first one first
abbrev pub due_in : ℕ → ℕ → List Timer → List Spot
due_in zero now ts = []
due_in (suc n) now ts = elim (first_from None ts) [
  | None ↦ []
  | Some x ↦ cond (nat_le x.due now) (x.spot ∷ due_in n now (others x.id ts)) []
]

-- where all transactions stand that are due, by rising time and id
unfoldable pub due_spots : ℕ → Txns → List Spot
due_spots now t = due_in (length (timers t)) now (timers t)

-- the table once the transaction at a spot was sent again, or ended where as many sends were made
-- as a limit allows
unfoldable pub renewed : ℕ → Option ℕ → Txns → Spot → Txns
renewed now limit t s = (ticked_at now limit t s (txn_at s t)).1
