-- Transactions that are sent, sent again, and ended.
use Rattle.std.specs.Prelude.{ℕ, ◌+◌, min, nat_le, Bool, false, cond, Option, Some, None}
use Rattle.transaction_table.specs.declared.TheConstants.{RESEND_AFTER}
use Rattle.transaction_table.specs.declared.txn.Txn.{Txn}
use Rattle.transaction_table.specs.declared.txn.Queued.{Queued}
use Rattle.transaction_table.specs.declared.txn.Outstanding.{Outstanding}
use Rattle.transaction_table.specs.declared.txn.Answered.{Answered}
use Rattle.transaction_table.specs.declared.txn.TimedOut.{TimedOut}
use Rattle.transaction_table.specs.declared.again.Again.{Again}
use Rattle.transaction_table.specs.declared.again.Again.TheVariants as again

-- when what is sent now is sent again
abbrev pub due_after : ℕ → ℕ
due_after now = now + RESEND_AFTER

-- a count of sends, which stays at 255
abbrev pub one_more : ℕ → ℕ
one_more sends = min (sends + 1) 255

-- whether as many sends were made as a limit allows
abbrev pub is_over : Option ℕ → ℕ → Bool
is_over None sends = false
is_over (Some limit) sends = nat_le limit sends

-- a transaction that is sent for the first time
abbrev pub sent : ℕ → Txn Queued → Txn Outstanding
sent now t = record {
  state = record {};
  peer = t.peer;
  id = t.id;
  message = t.message;
  sends = 1;
  due = due_after now;
}

-- a transaction that is sent again
abbrev pub sent_again : ℕ → Txn Outstanding → Txn Outstanding
sent_again now t = record t { sends = one_more t.sends; due = due_after now }

-- a transaction whose answer was taken
abbrev pub answered : Txn Outstanding → Txn Answered
answered t = record {
  state = record {};
  peer = t.peer;
  id = t.id;
  message = t.message;
  sends = t.sends;
  due = t.due;
}

-- a transaction that isn't sent any more
abbrev pub timed_out : Txn Outstanding → Txn TimedOut
timed_out t = record {
  state = record {};
  peer = t.peer;
  id = t.id;
  message = t.message;
  sends = t.sends;
  due = t.due;
}

-- a transaction whose time to be sent again has come
abbrev pub resent : ℕ → Option ℕ → Txn Outstanding → Again
resent now limit t =
    cond (is_over limit t.sends) (again.Over (timed_out t)) (again.Sent (sent_again now t))
