-- A transaction is answered at most once.
use Rattle.std.proofs.Common.{◌≡◌, ℕ, ◌==◌, true, false, cond, List, [], ◌∷◌, refl, ap, sym, subst, ◌∙◌, arith}
use Rattle.std.specs.Prelude.{Option, Some, None}
use Rattle.std.specs.List.{AllByRecursion}
use Rattle.std.specs.Ordering.{nat_cmp, eq_by_cmp, is_eq, ordering_reverse}
use Rattle.std.specs.declared.cmp.Ordering.{Ordering}
use Rattle.std.specs.declared.cmp.Ordering.TheVariants.{Less, Equal, Greater}
use Rattle.std.specs.Cmp.{nat_cmp_total}
use Rattle.std.specs.FinMap.{FinMap, get, insert, remove, get-insert, get-remove}
use Rattle.std.proofs.lemmas.Bool.Decides.{nat_tests}
use Rattle.transaction_table.specs.declared.outbox.Message.{Message}
use Rattle.transaction_table.specs.declared.outbox.Outbox.{Outbox}
use Rattle.transaction_table.specs.declared.outbox.Request.{Request}
use Rattle.transaction_table.specs.declared.spot.Spot.{Spot}
use Rattle.transaction_table.specs.declared.spot.Spot.TheVariants.{Head, Issued}
use Rattle.transaction_table.specs.Outboxes.{opened, next_of, replaced}
use Rattle.transaction_table.specs.Tables.{Txns, AreApart, head_spot, request_spot, either_spot, spot_of, outstanding, txn_at, ended, after_answer}

by_reverse : (r : Ordering) → r ≡ ordering_reverse r → is_eq r ≡ true
by_reverse Less e = absurd (cc)
by_reverse Equal e = refl
by_reverse Greater e = absurd (cc)

pub same_key : (k : ℕ) → eq_by_cmp nat_cmp k k ≡ true
same_key k = by_reverse (nat_cmp k k) (nat_cmp_total.antisymm k k)

pub get_put : {X : Type 0} (m : FinMap nat_cmp X) (k : ℕ) (x : X) → get (insert m k x) k ≡ Some x
get_put m k x = get-insert nat_cmp_total m k x k ∙ ap (λ b. cond b (Some x) (get m k)) (same_key k)

pub get_removed : {X : Type 0} (m : FinMap nat_cmp X) (k : ℕ) → get (remove m k) k ≡ None
get_removed m k = get-remove nat_cmp_total m k k ∙ ap (λ b. cond b None (get m k)) (same_key k)

none_spot : (peer id : ℕ) (t : Txns) → head_spot peer id (get t.outboxes peer) ≡ None → request_spot peer id (get t.issued id) ≡ None → spot_of peer id t ≡ None
none_spot peer id t h r = ap (λ s. either_spot s (request_spot peer id (get t.issued id))) h ∙ r

-- what is left once the transaction at a spot ended
abbrev left_by : ℕ → Txns → Option Spot → Txns
left_by now t None = t
left_by now t (Some s) = ended now s t

other_id : (a b : ℕ) → (a ≡ b → ⊥) → (a == b) ≡ false
other_id a b n = grind (arith, nat_tests, n)

one_id : (a b : ℕ) → (a == b) ≡ true → a ≡ b
one_id a b e = grind (arith, nat_tests, e)

module _ (now peer id : ℕ) (t : Txns) (a : AreApart t) where
  request_ends : (r : Option Request) → get t.issued id ≡ r → head_spot peer id (get t.outboxes peer) ≡ None
      → spot_of peer id (left_by now t (request_spot peer id r)) ≡ None
  request_ends None e h = none_spot peer id t h (ap (request_spot peer id) e)
  request_ends (Some r) e h =
      elim (r.peer.0 == peer) as (λ b. (r.peer.0 == peer) ≡ b → spot_of peer id (left_by now t (cond b (Some (Issued id)) None)) ≡ None) [
        | true ↦ λ f. none_spot peer id (ended now (Issued id) t) h (ap (request_spot peer id) (get_removed t.issued id))
        | false ↦ λ f. none_spot peer id t h (ap (request_spot peer id) e ∙ ap (λ b. cond b (Some (Issued id)) None) f)
      ] refl

  next_head : (o : Outbox) (ms : List Message) → o.head.id ≡ id → AllByRecursion (λ n. n.id ≡ o.head.id → ⊥) ms
      → head_spot peer id (get (replaced peer t.outboxes (elim ms [ [] ↦ None | m ∷ rest ↦ Some (opened now m rest) ])) peer) ≡ None
  next_head o [] e d = ap (head_spot peer id) (get_removed t.outboxes peer)
  next_head o (m ∷ rest) e d =
      ap (head_spot peer id) (get_put t.outboxes peer (opened now m rest))
      ∙ ap (λ b. cond b (Some (Head peer)) None) (other_id m.id id (λ f. d.0 (f ∙ sym e)))

  head_ends : (o : Outbox) → get t.outboxes peer ≡ Some o → o.head.id ≡ id → spot_of peer id (ended now (Head peer) t) ≡ None
  head_ends o g e =
      none_spot peer id (ended now (Head peer) t)
      (ap (λ there. head_spot peer id (get (next_of now peer t.outboxes there) peer)) g ∙ next_head o o.waiting e (a.apart peer o g).0.0)
      (ap (request_spot peer id) (subst (λ k. get t.issued k ≡ None) e (a.apart peer o g).1.0))

  spot_ends : (o : Option Outbox) → get t.outboxes peer ≡ o → spot_of peer id (left_by now t (either_spot (head_spot peer id o) (request_spot peer id (get t.issued id)))) ≡ None
  spot_ends None g = request_ends (get t.issued id) refl (ap (head_spot peer id) g)
  spot_ends (Some o) g =
      elim (o.head.id == id) as (λ b. (o.head.id == id) ≡ b → spot_of peer id (left_by now t (either_spot (cond b (Some (Head peer)) None) (request_spot peer id (get t.issued id)))) ≡ None) [
        | true ↦ λ f. head_ends o g (one_id o.head.id id f)
        | false ↦ λ f. request_ends (get t.issued id) refl (ap (head_spot peer id) g ∙ ap (λ b. cond b (Some (Head peer)) None) f)
      ] refl

  -- a transaction that was answered isn't outstanding
  pub once : (n : Txns) → n ≡ after_answer now peer id t → outstanding peer id n ≡ None
  once n e =
      ap (outstanding peer id) (e ∙ as_left (spot_of peer id t))
      ∙ ap (λ s. elim s [ None ↦ None | Some s ↦ txn_at s (left_by now t (spot_of peer id t)) ]) (spot_ends (get t.outboxes peer) refl)
    where
      as_left : (s : Option Spot) → (elim s [ None ↦ t | Some s ↦ ended now s t ]) ≡ left_by now t s
      as_left None = refl
      as_left (Some s) = refl
