-- What always holds of a peer still holds after a step.
use Rattle.std.proofs.Common.{◌≡◌, ℕ, ◌+◌, ◌≤◌, List, refl, sym, ap, subst, ◌∙◌, arith}
use Rattle.std.specs.Ordering.{nat_cmp}
use Rattle.std.specs.FinMap.{empty, len, len-empty}
use Rattle.transaction_table.specs.declared.outbox.Outbox.{Outbox}
use Rattle.transaction_table.specs.declared.outbox.Request.{Request}
use Rattle.transaction_table.specs.Tables.{Txns, Outboxes, Requests}
use Rattle.node_links.specs.Small.{AreAllSmall}
use Rattle.node_model.specs.Clocks.{node_clocked}
use Rattle.overlay_peer.proofs.Queues.{none_small}
use Rattle.reload_ids.specs.declared.NodeId.{NodeId}
use Rattle.data_models.specs.declared.config.Config.{Config}
use Rattle.chord_tables.specs.Tables.{Tables}
use Rattle.storage_model.specs.Records.{Map, record_in}
use Rattle.storage_model.specs.Decisions.{changed}
use Rattle.storage_model.specs.Laws.{IsSoundAsked, IsWithin}
use Rattle.node_model.specs.Nodes.{Node, Post, me, node_after}
use Rattle.overlay_peer.specs.declared.plan.Question.{Question}
use Rattle.overlay_peer.specs.Kept.{IsKept}
use Rattle.overlay_peer.specs.Plans.{effect_on}
use Rattle.overlay_peer.proofs.Counts.{none_within, within_next, within_more}

pub kept_first : (n : Node) (tables : Tables) (records : Map) (t : Txns) → tables.me ≡ me n → records ≡ empty → t.outboxes ≡ empty → t.issued ≡ empty → IsKept n tables records t
kept_first n tables records t mine none no_outbox no_request = record {
  me = mine;
  within = λ r. subst (λ (m : Map). IsWithin n.inputs (record_in m r)) (sym none) (none_within n.inputs r);
  few = omega (arith, ap (λ (m : Outboxes). len m) no_outbox, ap (λ (m : Requests). len m) no_request, len-empty nat_cmp Outbox, len-empty nat_cmp Request);
  small = none_small t no_outbox no_request;
}

-- a step that counts an input more leaves what held of the rest
kept_over : (n m : Node) (tables : Tables) (records : Map) (t : Txns) → me m ≡ me n → m.inputs ≡ n.inputs + 1 → m.ids ≡ n.ids → IsKept n tables records t → IsKept m tables records t
kept_over n m tables records t mine more used k = record {
  me = k.me ∙ sym mine;
  within = λ r. subst (λ i. IsWithin i (record_in records r)) (sym more) (within_next n.inputs (record_in records r) (k.within r));
  few = subst (λ i. len t.outboxes + len t.issued ≤ i) (sym used) k.few;
  small = k.small;
}

-- so do transactions that are no more, and no larger
pub kept_fewer : (n : Node) (tables : Tables) (records : Map) (t u : Txns) → (len u.outboxes + len u.issued ≤ len t.outboxes + len t.issued) → AreAllSmall u → IsKept n tables records t → IsKept n tables records u
kept_fewer n tables records t u few small k = record {
  me = k.me;
  within = k.within;
  few = omega (arith, few, k.few);
  small = small;
}

after_me : (from : NodeId) (sequence : ℕ) (posts : List Post) (n : Node) → me (node_after from sequence posts n) ≡ me n
unfolding node_after
after_me from sequence posts n = refl

after_inputs : (from : NodeId) (sequence : ℕ) (posts : List Post) (n : Node) → (node_after from sequence posts n).inputs ≡ n.inputs + 1
unfolding node_after
after_inputs from sequence posts n = refl

after_ids : (from : NodeId) (sequence : ℕ) (posts : List Post) (n : Node) → (node_after from sequence posts n).ids ≡ n.ids
unfolding node_after
after_ids from sequence posts n = refl

pub kept_after : (from : NodeId) (sequence : ℕ) (posts : List Post) (n m : Node) (tables : Tables) (records : Map) (t : Txns) → m ≡ node_after from sequence posts n → IsKept n tables records t → IsKept m tables records t
kept_after from sequence posts n m tables records t is k =
    kept_over n m tables records t (ap (λ x. me x) is ∙ after_me from sequence posts n)
    (ap (λ (x : Node). x.inputs) is ∙ after_inputs from sequence posts n) (ap (λ (x : Node). x.ids) is ∙ after_ids from sequence posts n) k

clocked_me : (posts : List Post) (n : Node) → me (node_clocked posts n) ≡ me n
unfolding node_clocked
clocked_me posts n = refl

clocked_inputs : (posts : List Post) (n : Node) → (node_clocked posts n).inputs ≡ n.inputs + 1
unfolding node_clocked
clocked_inputs posts n = refl

clocked_ids : (posts : List Post) (n : Node) → (node_clocked posts n).ids ≡ n.ids
unfolding node_clocked
clocked_ids posts n = refl

pub kept_clocked : (posts : List Post) (n m : Node) (tables : Tables) (records : Map) (t : Txns) → m ≡ node_clocked posts n → IsKept n tables records t → IsKept m tables records t
kept_clocked posts n m tables records t is k =
    kept_over n m tables records t (ap (λ x. me x) is ∙ clocked_me posts n)
    (ap (λ (x : Node). x.inputs) is ∙ clocked_inputs posts n) (ap (λ (x : Node). x.ids) is ∙ clocked_ids posts n) k

pub kept_decided : (from : NodeId) (sequence : ℕ) (posts : List Post) (n m : Node) (tables : Tables) (before after : Map) (t : Txns) (config : Config) (now : ℕ) (q : Question) → m ≡ node_after from sequence posts n
    → after ≡ changed before q.resource.0 (effect_on before config now q).next → IsSoundAsked config q.request → IsKept n tables before t → IsKept m tables after t
kept_decided from sequence posts n m tables before after t config now q is next sound k = record {
  me = k.me ∙ sym (ap (λ x. me x) is ∙ after_me from sequence posts n);
  within = λ r.
      subst (λ i. IsWithin i (record_in after r)) (sym (ap (λ (x : Node). x.inputs) is ∙ after_inputs from sequence posts n))
      (subst (λ (y : Map). IsWithin (n.inputs + 1) (record_in y r)) (sym next) (within_more before config now n.inputs q sound k.within r));
  few = subst (λ i. len t.outboxes + len t.issued ≤ i) (sym (ap (λ (x : Node). x.ids) is ∙ after_ids from sequence posts n)) k.few;
  small = k.small;
}
