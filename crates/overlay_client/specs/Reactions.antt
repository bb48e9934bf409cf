-- What a client makes of a message that it hears.
use Rattle.std.specs.Prelude.{◌≡◌, ℕ, ◌+◌, ◌≤◌, true, [], ◌∷◌, length, is_some}
use Rattle.wire_core.specs.declared.limits.TheConstants.{MAX_MESSAGE}
use Rattle.reload_ids.specs.declared.NodeId.{NodeId}
use Rattle.forwarding_header.specs.Header.{header, IsSpelledHeader, IsHeaderInRange}
use Rattle.transaction_table.specs.Tables.{outstanding}
use Rattle.node_model.specs.Links.{ack_to}
use Rattle.node_model.specs.Heard.{Envelope}
use Rattle.node_model.specs.Nodes.{Step, frames_of_all, node_after}
use Rattle.node_model.specs.Clients as model
use Rattle.node_links.specs.Sendings.{post_of, IsSending}
use Rattle.overlay_client.specs.declared.hearing.Reaction.{Reaction}
use Rattle.overlay_client.specs.declared.hearing.Reaction.TheVariants.{Nothing, Passes, Takes}

-- what it makes of a message, as a plain value
abbrev pub reaction_of : model.Client → ℕ → NodeId → Reaction → model.Reaction
reaction_of c now from Nothing = model.sends c []
reaction_of c now from (Passes sending) = model.sends c (post_of sending ∷ [])
reaction_of c now from (Takes id told) = model.takes c now from id told

-- What is passed on can be sent, and what is taken answers a request.
abbrev pub IsReaction : model.Client → NodeId → Reaction → Type 0
IsReaction c from Nothing = Unit {0}
IsReaction c from (Passes sending) = IsSending sending
IsReaction c from (Takes id told) = is_some (outstanding from.0 id c.txns) ≡ true

-- A message's header fits, and all of it is no longer than a message may be.
pub record IsWhole (e : Envelope) : Type 0 where
  pub is_spelled : IsSpelledHeader e.header
  pub in_range : IsHeaderInRange e.header
  pub within : length (header e.header) + length e.behind ≤ MAX_MESSAGE

-- a client that heard a payload, acked it and did this
unfoldable pub heard : NodeId → ℕ → model.Reaction → model.Client → Step model.Client
heard from sequence r c = record {
  node = record {
    node = node_after from sequence r.posts c.node;
    txns = r.txns;
    questions = r.questions;
  };
  outputs = record {
    frames = ack_to from sequence c.node.links ∷ frames_of_all c.node.links r.posts;
    notices = r.notices;
  };
}
