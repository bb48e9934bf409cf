-- What ends the head of an outbox, and what is sent then (RFC 6940, 6.2.1, and this profile).
use Rattle.std.specs.Prelude.{ℕ, ◌+◌, ◌==◌, ◌&&◌, ◌||◌, Bool, false, List, Option, Some}
use Rattle.std.specs.Option.{option_map, option_map_or}
use Rattle.std.specs.FinMap.{get}
use Rattle.reload_ids.specs.declared.NodeId.{NodeId}
use Rattle.message_bodies.specs.declared.code.TheConstants.{ERROR}
use Rattle.transaction_table.specs.declared.outbox.Outbox.{Outbox}
use Rattle.transaction_table.specs.Tables.{Txns}
use Rattle.node_messages.specs.declared.message.Message.{Message}
use Rattle.node_messages.specs.declared.message.Message.TheVariants as messages
use Rattle.node_model.specs.declared.limits.TheConstants.{MAX_TTL}
use Rattle.node_model.specs.Nodes.{Post, spelling_of}
use Rattle.node_model.specs.Heard.{Envelope, envelope_of, ttl_of}

-- whether a peer signed a message that has a spelling
abbrev pub is_of_peer : Message → Bool
is_of_peer (messages.Whole h contents certificates (Some who)) = who.peer
is_of_peer _ = false

-- whether a message code answers a message of these bytes: the one behind its own, or an error's
unfoldable pub is_answered_by : ℕ → List ℕ → Bool
is_answered_by code message =
    option_map_or (λ e. (code == e.code + 1) || (code == ERROR)) (envelope_of message) false

-- whether an answer ends the head of this outbox: it has the head's id and a code that answers it,
-- and nobody passed it on, since its TTL is the one with which each message begins
unfoldable pub is_end_of : Envelope → Outbox → Bool
is_end_of e o =
    (o.head.id == e.header.id)
    && (ttl_of e.header == MAX_TTL)
    && is_answered_by e.code o.head.bytes

-- whether an answer from a node ends the head of the outbox to it: a peer must have signed it
unfoldable pub is_ended_by : Message → NodeId → Envelope → Txns → Bool
is_ended_by message from e t =
    option_map_or (is_end_of e) (get t.outboxes from.0) false && is_of_peer message

-- the head of the outbox to a node, as it is sent
unfoldable pub head_post : NodeId → Txns → Option Post
head_post to t =
    option_map (λ o. record { to = to; message = spelling_of o.head.bytes })
    (get t.outboxes to.0)
