-- A request that a client issues, with its bytes.
use Rattle.std.specs.Prelude.{ℕ, ◌≤◌, List, [], length, Option, Some, unwrap_or, IfSome}
use Rattle.std.specs.FinMap.{insert}
use Rattle.reload_ids.specs.declared.NodeId.{NodeId}
use Rattle.wire_core.specs.declared.limits.TheConstants.{MAX_MESSAGE}
use Rattle.forwarding_header.specs.declared.header.Header.{Header}
use Rattle.message_bodies.specs.declared.body.Body.{Body}
use Rattle.transaction_table.specs.declared.txn.Txn.{Txn}
use Rattle.transaction_table.specs.declared.txn.Queued.{Queued}
use Rattle.transaction_table.specs.Tables.{issued}
use Rattle.node_messages.specs.Signed.{SignerWords}
use Rattle.node_messages.specs.Making.{made}
use Rattle.node_model.specs.declared.question.Question.{Question}
use Rattle.node_model.specs.Nodes.{Node, Post, Step, frames_of}
use Rattle.node_model.specs.Requests.{Request}
use Rattle.node_model.specs.Clients.{Client, node_asking}
use Rattle.overlay_client.specs.declared.asking.Asking.{Asking}

-- a request of these parts
abbrev pub request : NodeId → Header → Body → Question → Request
request peer header body question =
    record { peer = peer; header = header; body = body; question = question }

-- a request with the bytes that its node makes of it, if it can
abbrev pub asking_of : SignerWords → Node → Request → Asking
asking_of words n r = record {
  peer = r.peer;
  id = r.header.id;
  message = made words n.about r.header (record { body = r.body; extensions = [] });
  question = r.question;
}

-- the bytes, if there are any, are no more than a message may have
abbrev pub IsSmall : Option (List ℕ) → Type 0
IsSmall message = IfSome message (λ bytes. length bytes ≤ MAX_MESSAGE)

-- a request as a transaction that isn't sent yet
abbrev pub queued_of : NodeId → ℕ → List ℕ → Txn Queued
queued_of peer id message = record {
  state = record {};
  peer = peer;
  id = id;
  message = message;
  sends = 0;
  due = 0;
}

-- a client issues a request that is made
unfoldable pub asked : ℕ → Asking → Client → Step Client
asked now a c =
    let post : Post = record { to = a.peer; message = a.message } in
    record {
      node = record {
        node = node_asking post c.node;
        txns = issued now (queued_of a.peer a.id (unwrap_or a.message [])) c.txns;
        questions = insert c.questions a.id a.question;
      };
      outputs = record { frames = frames_of c.node.links (Some post); notices = [] };
    }
