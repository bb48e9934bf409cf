-- The messages of a table.
use Rattle.std.specs.Prelude.{ℕ, ◌≡◌, ◌≤◌, length, Some}
use Rattle.std.specs.List.{AllByRecursion}
use Rattle.std.specs.FinMap.{get}
use Rattle.wire_core.specs.declared.limits.TheConstants.{MAX_MESSAGE}
use Rattle.transaction_table.specs.declared.txn.Txn.{Txn}
use Rattle.transaction_table.specs.declared.txn.Outstanding.{Outstanding}
use Rattle.transaction_table.specs.declared.spot.Spot.{Spot}
use Rattle.transaction_table.specs.declared.outbox.Outbox.{Outbox}
use Rattle.transaction_table.specs.declared.outbox.Request.{Request}
use Rattle.transaction_table.specs.Tables.{Txns, messages, txn_at}

-- No message that waits, in an outbox or for an answer, has more bytes than a message may have.
pub record AreAllSmall (t : Txns) : Type 0 where
  pub queued : (peer : ℕ) (o : Outbox) → get t.outboxes peer ≡ Some o
      → AllByRecursion (λ m. length m.bytes ≤ MAX_MESSAGE) (messages o)
  pub issued : (id : ℕ) (r : Request) → get t.issued id ≡ Some r
      → length r.message.bytes ≤ MAX_MESSAGE

-- Each outstanding transaction has no more bytes than a message may have.
abbrev pub AreSmall : Txns → Type 0
AreSmall t =
    (s : Spot) (x : Txn Outstanding) → txn_at s t ≡ Some x → length x.message ≤ MAX_MESSAGE
