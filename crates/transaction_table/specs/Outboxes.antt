-- What waits to be sent, or for an answer.
use Rattle.std.specs.Prelude.{ℕ, ◌≡◌, List, [], ◌∷◌, ◌++◌, Option, Some, None, IfSome}
use Rattle.std.specs.Option.{option_map}
use Rattle.std.specs.Ordering.{nat_cmp}
use Rattle.std.specs.FinMap.{FinMap, get, insert, remove}
use Rattle.reload_ids.specs.declared.NodeId.{NodeId}
use Rattle.transaction_table.specs.declared.txn.Txn.{Txn}
use Rattle.transaction_table.specs.declared.txn.Queued.{Queued}
use Rattle.transaction_table.specs.declared.txn.Outstanding.{Outstanding}
use Rattle.transaction_table.specs.declared.outbox.Message.{Message}
use Rattle.transaction_table.specs.declared.outbox.Outbox.{Outbox}
use Rattle.transaction_table.specs.declared.outbox.Request.{Request}
use Rattle.transaction_table.specs.Sends.{due_after, one_more}

-- the message of a transaction that isn't sent yet
abbrev pub message_of : Txn Queued → Message
message_of x = record { id = x.id; bytes = x.message }

-- the transaction of a message that was sent
abbrev pub outstanding_of : NodeId → Message → ℕ → ℕ → Txn Outstanding
outstanding_of peer m sends due = record {
  state = record {};
  peer = peer;
  id = m.id;
  message = m.bytes;
  sends = sends;
  due = due;
}

-- an outbox whose head is sent now
abbrev pub opened : ℕ → Message → List Message → Outbox
opened now head waiting = record { head = head; sends = 1; due = due_after now; waiting = waiting }

-- an outbox in which one more message waits
abbrev pub behind : Message → Outbox → Outbox
behind m o = record o { waiting = o.waiting ++ m ∷ [] }

-- no message waits behind the head of an outbox, if there is one
abbrev pub IsAlone : Option Outbox → Type 0
IsAlone there = IfSome there (λ o. o.waiting ≡ [])

-- the outbox at a key has lost the message that waited last
abbrev pub HasLost : Message → ℕ → FinMap nat_cmp Outbox → FinMap nat_cmp Outbox → Type 0
HasLost last k old new =
    (o : Outbox) × (get old k ≡ Some (behind last o)) × (new ≡ insert old k o)

-- an outbox whose head ended: the next message is its head, if there is one
abbrev pub promoted : ℕ → Outbox → Option Outbox
promoted now o = elim (o.waiting) [ [] ↦ None | m ∷ ms ↦ Some (opened now m ms) ]

-- the outbox to a peer once its head ended and another message waited
abbrev pub next_in : ℕ → Option Outbox → Option Outbox
next_in now None = None
next_in now (Some o) = promoted now o

-- the head that ends where another message waits
abbrev pub promoted_head : ℕ → Option Outbox → Option Message
promoted_head now None = None
promoted_head now (Some o) = option_map (λ _. o.head) (promoted now o)

-- an outbox whose head is sent again
abbrev pub again_outbox : ℕ → Outbox → Outbox
again_outbox now o = record o { sends = one_more o.sends; due = due_after now }

-- a request that is sent again
abbrev pub again_request : ℕ → Request → Request
again_request now r = record r { sends = one_more r.sends; due = due_after now }

-- a map in which what a key has is changed
abbrev pub changed : {X : Type 0} → (X → X) → ℕ → FinMap nat_cmp X → Option X → FinMap nat_cmp X
changed f k m None = m
changed f k m (Some x) = insert m k (f x)

-- a map in which a key has what is given, if anything is
abbrev pub put_some : ℕ → FinMap nat_cmp Outbox → Option Outbox → FinMap nat_cmp Outbox
put_some k m None = m
put_some k m (Some o) = insert m k o

-- a map in which a key has what is given, or nothing
abbrev pub replaced : ℕ → FinMap nat_cmp Outbox → Option Outbox → FinMap nat_cmp Outbox
replaced k m None = remove m k
replaced k m (Some o) = insert m k o

-- outboxes in which the head to a peer ended
abbrev pub next_of : ℕ → ℕ → FinMap nat_cmp Outbox → Option Outbox → FinMap nat_cmp Outbox
next_of now peer m there = replaced peer m (next_in now there)
