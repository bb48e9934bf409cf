-- A question that is asked is decided as its message says.
use Rattle.std.proofs.Common.{◌≡◌, ℕ, List, [], ◌∷◌, refl, ap, ◌∙◌}
use Rattle.reload_ids.specs.declared.NodeId.{NodeId}
use Rattle.reload_ids.specs.declared.ResourceId.{ResourceId}
use Rattle.forwarding_header.specs.declared.header.Header.{Header}
use Rattle.node_messages.specs.declared.message.Message.{Message}
use Rattle.node_messages.specs.Signed.{SignerWords}
use Rattle.storage_model.specs.declared.request.Asked.{Asked}
use Rattle.node_model.specs.Ways.{reply_header}
use Rattle.node_model.specs.Askings.{asked_in, origin_of}
use Rattle.node_model.specs.Replies.{reply}
use Rattle.chord_tables.specs.Tables.{ids}
use Rattle.node_model.specs.Peers.{Peer, nodes_of, decides}
use Rattle.overlay_peer.specs.declared.plan.Question.{Question}
use Rattle.overlay_peer.specs.Plans.{effect_on, answer_post, answer_outputs, decided_on, heard_with}

abbrev question : ResourceId → ℕ → NodeId → Asked → Header → Question
question resource id origin request answer = record { resource = resource; origin = origin; id = id; request = request; reply = answer }

asked_decides : (words : SignerWords) (p : Peer) (now : ℕ) (from : NodeId) (h : Header) (resource : ResourceId) (m : Message)
    → decided_on words p now from (question resource h.id (origin_of m) (asked_in words p.node.config resource m) (reply_header from h)) ≡ decides words p now from h resource m
unfolding decides decided_on answer_post reply
asked_decides words p now from h resource m = refl

pub decides_is : (words : SignerWords) (p : Peer) (now : ℕ) (from : NodeId) (h : Header) (resource : ResourceId) (m : Message) (origin : NodeId) (request : Asked) (answer : Header)
    → origin ≡ origin_of m → request ≡ asked_in words p.node.config resource m → answer ≡ reply_header from h
    → decided_on words p now from (record { resource = resource; origin = origin; id = h.id; request = request; reply = answer }) ≡ decides words p now from h resource m
decides_is words p now from h resource m origin request answer a b c =
    ap (λ (o : NodeId). decided_on words p now from (question resource h.id o request answer)) a
    ∙ ap (λ (r : Asked). decided_on words p now from (question resource h.id (origin_of m) r answer)) b
    ∙ ap (λ (k : Header). decided_on words p now from (question resource h.id (origin_of m) (asked_in words p.node.config resource m) k)) c
    ∙ asked_decides words p now from h resource m

-- what leaves and is told of a decision
pub outputs_are : (words : SignerWords) (p : Peer) (now : ℕ) (from : NodeId) (sequence : ℕ) (q : Question)
    → answer_outputs words p.node p.tables now from sequence q (effect_on p.records p.node.config now q).answer (effect_on p.records p.node.config now q).acted
    ≡ (heard_with from sequence (decided_on words p now from q)).outputs
unfolding answer_outputs heard_with decided_on
outputs_are words p now from sequence q = refl

-- the nodes of the ids of nodes
pub nodes_of-ids : (nodes : List NodeId) → nodes_of (ids nodes) ≡ nodes
nodes_of-ids [] = refl
nodes_of-ids (n ∷ nodes) = ap (λ rest. n ∷ rest) (nodes_of-ids nodes)
