-- What was queued last is taken back.
use Rattle.std.proofs.Common.{◌≡◌, ℕ, List, [], ◌∷◌, ◌++◌, refl, ap, sym, subst, ◌∙◌}
use Rattle.std.specs.Prelude.{Option, Some, None}
use Rattle.std.specs.Cmp.{nat_cmp_total}
use Rattle.std.specs.FinMap.{get, insert, remove, nat_cmp-IsAntisymmetric}
use Rattle.std.proofs.lemmas.List.{same_from_push}
use Rattle.reload_ids.specs.declared.NodeId.{NodeId}
use Rattle.ordered_tables.proofs.Finite.{insert-insert, insert-same, remove-insert}
use Rattle.transaction_table.specs.declared.txn.Txn.{Txn}
use Rattle.transaction_table.specs.declared.txn.Queued.{Queued}
use Rattle.transaction_table.specs.declared.outbox.Message.{Message}
use Rattle.transaction_table.specs.declared.outbox.Outbox.{Outbox}
use Rattle.transaction_table.specs.Outboxes.{IsAlone, HasLost, opened, behind, message_of}
use Rattle.transaction_table.specs.Tables.{Txns, Outboxes, Requests, queued, forgotten}
use Rattle.transaction_table.proofs.Once.{get_put}

some_same : {X : Type 0} (x y : X) → Some x ≡ Some y → x ≡ y
some_same x y e = cc

not_pushed : (ms : List Message) (m : Message) → ms ++ m ∷ [] ≡ [] → ⊥
not_pushed [] m e = cc
not_pushed (x ∷ ms) m e = cc

abbrev outbox_of : Message → ℕ → ℕ → List Message → Outbox
outbox_of head sends due waiting = record { head = head; sends = sends; due = due; waiting = waiting }

-- two outboxes that are one with a message behind each are one without it
same_before : (m n : Message) (o u : Outbox) → behind m o ≡ behind n u → o ≡ u
same_before m n o u e =
    ap (λ h. outbox_of h o.sends o.due o.waiting) (ap (λ (v : Outbox). v.head) e)
    ∙ ap (λ s. outbox_of u.head s o.due o.waiting) (ap (λ (v : Outbox). v.sends) e)
    ∙ ap (λ d. outbox_of u.head u.sends d o.waiting) (ap (λ (v : Outbox). v.due) e)
    ∙ ap (outbox_of u.head u.sends u.due) (same_from_push o.waiting u.waiting m n (ap (λ (v : Outbox). v.waiting) e)).0

abbrev txns_of : Outboxes → Requests → Txns
txns_of os rs = record { outboxes = os; issued = rs }

same_txns : (a b : Txns) → a.outboxes ≡ b.outboxes → a.issued ≡ b.issued → a ≡ b
same_txns a b outboxes issued = ap (λ os. txns_of os a.issued) outboxes ∙ ap (λ rs. txns_of b.outboxes rs) issued

module _ (os : Outboxes) (k now : ℕ) (m : Message) where
  -- the message behind others is taken out
  lost_again : (there : Option Outbox) → get os k ≡ there → (old : Outboxes) → old ≡ insert os k (elim there [ None ↦ opened now m [] | Some o ↦ behind m o ])
      → (last : Message) (left : Outboxes) → HasLost last k old left → left ≡ os
  lost_again None e old is last left h =
      let both : opened now m [] ≡ behind last h.0 = some_same _ _ (sym (ap (λ n. get n k) is ∙ get_put os k (opened now m [])) ∙ h.1) in
      absurd (not_pushed h.0.waiting last (sym (ap (λ (v : Outbox). v.waiting) both)))
  lost_again (Some o) e old is last left h =
      let both : behind m o ≡ behind last h.0 = some_same _ _ (sym (ap (λ n. get n k) is ∙ get_put os k (behind m o)) ∙ h.1) in
      h.2 ∙ ap (λ n. insert n k h.0) is
      ∙ insert-insert nat_cmp_total nat_cmp-IsAntisymmetric os k (behind m o) h.0
      ∙ ap (insert os k) (sym (same_before m last o h.0 both))
      ∙ insert-same nat_cmp_total nat_cmp-IsAntisymmetric os k o e

  -- the outbox in which the message is alone is taken out
  none_again : (there : Option Outbox) → get os k ≡ there → (old : Outboxes) → old ≡ insert os k (elim there [ None ↦ opened now m [] | Some o ↦ behind m o ])
      → IsAlone (get old k) → remove old k ≡ os
  none_again None e old is h = ap (λ n. remove n k) is ∙ remove-insert nat_cmp_total nat_cmp-IsAntisymmetric os k (opened now m []) e
  none_again (Some o) e old is h = absurd (not_pushed o.waiting m (subst IsAlone (ap (λ n. get n k) is ∙ get_put os k (behind m o)) h))

module _ (old before : Txns) (now : ℕ) (x : Txn Queued) (peer : NodeId) (to : x.peer ≡ peer) (is : old ≡ queued now x before) where
  pub lost_before : (last : Message) (left : Outboxes) → HasLost last peer.0 old.outboxes left → txns_of left old.issued ≡ before
  lost_before last left h =
      same_txns (txns_of left old.issued) before
      (lost_again before.outboxes x.peer.0 now (message_of x) (get before.outboxes x.peer.0) refl old.outboxes (ap (λ (t : Txns). t.outboxes) is) last left
      (subst (λ (p : NodeId). HasLost last p.0 old.outboxes left) (sym to) h))
      (ap (λ (t : Txns). t.issued) is)

  pub none_before : (left : Outboxes) → IsAlone (get old.outboxes peer.0) → left ≡ old.outboxes → (new : Txns) → new ≡ forgotten peer.0 (txns_of left old.issued) → new ≡ before
  none_before left h same new f =
      f ∙ ap (λ os. txns_of (remove os peer.0) old.issued) same
      ∙ same_txns (txns_of (remove old.outboxes peer.0) old.issued) before
      (subst (λ (p : NodeId). remove old.outboxes p.0 ≡ before.outboxes) to
      (none_again before.outboxes x.peer.0 now (message_of x) (get before.outboxes x.peer.0) refl old.outboxes (ap (λ (t : Txns). t.outboxes) is)
      (subst (λ (p : NodeId). IsAlone (get old.outboxes p.0)) (sym to) h)))
      (ap (λ (t : Txns). t.issued) is)
