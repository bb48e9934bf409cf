-- What always holds of a client.
use Rattle.std.specs.Prelude.{◌≡◌, ℕ, ◌≤◌, false, length, Some, None, is_some, refl}
use Rattle.std.specs.Ordering.{nat_cmp}
use Rattle.std.specs.FinMap as map
use Rattle.std.specs.Coded.{Coded, code_by, coded×, coded_ℕ}
use Rattle.wire_core.specs.declared.limits.TheConstants.{MAX_MESSAGE}
use Rattle.transaction_table.specs.declared.outbox.Request.{Request}
use Rattle.transaction_table.specs.Tables.{Txns}
use Rattle.transaction_table.specs.Codes.{txns_code}
use Rattle.node_model.specs.declared.question.Question.{Question}
use Rattle.node_model.specs.contracts.question.Question as of_question
use Rattle.node_model.specs.Nodes.{Node, next_id}
use Rattle.node_model.specs.Clients.{Client}
use Rattle.node_links.specs.Kept.{node_code}

-- a client of these parts
abbrev pub client_of : Node → Txns → map.FinMap nat_cmp Question → Client
client_of node txns questions = record { node = node; txns = txns; questions = questions }

-- a client as the tuple of its parts
abbrev pub client_code : Coded Client
client_code = code_by ((Node × Txns) × map.FinMap nat_cmp Question)
    (coded× (coded× node_code txns_code) (map.code coded_ℕ of_question.the_row.coded))
    (λ c. ((c.node, c.txns), c.questions)) (λ p. client_of p.0.0 p.0.1 p.1) (λ _. refl)

-- It is no peer and has no outboxes. The ids of its requests are below its next one, and the
-- requests that wait for answers are those whose questions it keeps, as many as these, and no more
-- than it used ids. Each is found under its id, and has no more bytes than a message may have.
pub record IsSound (c : Client) : Type 0 where
  pub client : c.node.about.peer ≡ false
  pub none_queued : c.txns.outboxes ≡ map.empty
  pub used : (id : ℕ) → next_id c.node ≤ id → map.get c.txns.issued id ≡ None
  pub same : (id : ℕ) → is_some (map.get c.txns.issued id) ≡ is_some (map.get c.questions id)
  pub count : map.len c.txns.issued ≡ map.len c.questions
  pub few : map.len c.txns.issued ≤ c.node.ids
  pub named : (id : ℕ) (r : Request) → map.get c.txns.issued id ≡ Some r → r.message.id ≡ id
  pub small : (id : ℕ) (r : Request) → map.get c.txns.issued id ≡ Some r
      → length r.message.bytes ≤ MAX_MESSAGE
