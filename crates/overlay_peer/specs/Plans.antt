-- What a peer is about to do with a message, and what becomes of it.
use Rattle.std.specs.Prelude.{ℕ, ◌+◌, ◌≤◌, ◌≡◌, Bool, [], ◌∷◌, length, Some, option_to_list, IfSome}
use Rattle.std.specs.Option.{option_map}
use Rattle.std.specs.FinMap.{get}
use Rattle.reload_ids.specs.declared.NodeId.{NodeId}
use Rattle.wire_core.specs.declared.limits.TheConstants.{MAX_MESSAGE}
use Rattle.data_models.specs.declared.config.Config.{Config}
use Rattle.chord_tables.specs.Tables.{Tables, mirrors}
use Rattle.forwarding_header.specs.declared.header.Header.{Header}
use Rattle.forwarding_header.specs.Header.{header, IsSpelledHeader, IsHeaderInRange}
use Rattle.forwarding_header.specs.Destinations.{destinations}
use Rattle.node_messages.specs.Signed.{SignerWords}
use Rattle.node_messages.specs.Making.{made}
use Rattle.storage_model.specs.declared.answer.Answer.{Answer}
use Rattle.storage_model.specs.Records.{Map, record_in}
use Rattle.storage_model.specs.Laws.{IsSoundAsked}
use Rattle.storage_model.specs.Decisions.{Effect, effect_of, changed}
use Rattle.node_links.specs.Sendings.{posted, post_of, IsSending}
use Rattle.node_model.specs.declared.input.Outputs.{Outputs}
use Rattle.node_model.specs.declared.notice.Notice.TheVariants as notices
use Rattle.node_model.specs.declared.limits.TheConstants.{MAX_VIA}
use Rattle.node_model.specs.Links.{ack_to}
use Rattle.node_model.specs.Nodes.{Node, Post, Step, frames_of_all, node_after}
use Rattle.node_model.specs.Heard.{Envelope}
use Rattle.node_model.specs.Replies.{body_of}
use Rattle.node_model.specs.Peers.{Peer, Reaction, sends, ends, nodes_of}
use Rattle.transaction_table.specs.declared.outbox.Outbox.{Outbox}
use Rattle.transaction_table.specs.Tables.{Txns}
use Rattle.overlay_peer.specs.declared.plan.Question.{Question}
use Rattle.overlay_peer.specs.declared.plan.Plan.{Plan}
use Rattle.overlay_peer.specs.declared.plan.Plan.TheVariants.{Send, Decide, End}

-- A message of so many bytes has a header that fits, a short via list, and all the rest behind it.
pub record IsSized (size : ℕ) (e : Envelope) : Type 0 where
  pub is_spelled : IsSpelledHeader e.header
  pub in_range : IsHeaderInRange e.header
  pub via : length (destinations e.header.via) ≤ MAX_VIA
  pub whole : size ≡ length (header e.header) + length e.behind
  pub within : size ≤ MAX_MESSAGE

-- an id is that of the head of the outbox to a node
abbrev pub IsHead : Txns → NodeId → ℕ → Type 0
IsHead t to id = (o : Outbox) × (get t.outboxes to.0 ≡ Some o) × (o.head.id ≡ id)

-- What is sent fits, a Store that is decided on makes sense, and what ends is the head of the outbox
-- to the node that the answer came from.
abbrev pub IsPlan : Peer → NodeId → Plan → Type 0
IsPlan p from (Send sending) = IfSome sending IsSending
IsPlan p from (Decide question) = IsSoundAsked p.node.config question.request
IsPlan p from (End id) = IsHead p.txns from id

-- what records make of a question
abbrev pub effect_on : Map → Config → ℕ → Question → Effect
effect_on m config now q =
    effect_of config now q.resource.0 (record_in m q.resource.0) q.origin q.id q.request

-- the answer that a node with these tables sends, with this header
unfoldable pub answer_post : SignerWords → Node → Tables → NodeId → Header → Answer → Post
answer_post words n tables from h answer =
    let body = body_of (nodes_of (mirrors n.config.replicas tables)) answer in
    posted from (made words n.about h (record { body = body; extensions = [] }))

-- what leaves a node that answers a question of a payload, and what is told
unfoldable pub answer_outputs : SignerWords → Node → Tables → ℕ → NodeId → ℕ → Question → Answer
    → Bool → Outputs
answer_outputs words n tables now from sequence q answer acted = record {
  frames = ack_to from sequence n.links
      ∷ frames_of_all n.links (answer_post words n tables from q.reply answer ∷ []);
  notices = notices.Decision now q.resource q.origin q.id q.request answer acted ∷ [];
}

-- what a peer makes of a question, at a clock
unfoldable pub decided_on : SignerWords → Peer → ℕ → NodeId → Question → Reaction
decided_on words p now from q =
    let effect = effect_on p.records p.node.config now q in
    record {
      peer = record p { records = changed p.records q.resource.0 effect.next };
      posts = answer_post words p.node p.tables from q.reply effect.answer ∷ [];
      notices = notices.Decision now q.resource q.origin q.id q.request effect.answer effect.acted
          ∷ [];
    }

-- what a peer makes of what it is about to do
abbrev pub planned : SignerWords → Peer → ℕ → NodeId → Plan → Reaction
planned words p now from (Send sending) = sends p (option_to_list (option_map post_of sending))
planned words p now from (Decide question) = decided_on words p now from question
planned words p now from (End id) = ends p now from id

-- a peer that heard a payload, with what it makes of its message
unfoldable pub heard_with : NodeId → ℕ → Reaction → Step Peer
heard_with from sequence r = record {
  node = record r.peer { node = node_after from sequence r.posts r.peer.node };
  outputs = record {
    frames = ack_to from sequence r.peer.node.links ∷ frames_of_all r.peer.node.links r.posts;
    notices = r.notices;
  };
}
