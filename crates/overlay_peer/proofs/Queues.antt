-- Outboxes whose messages aren't too large, and how many there are.
use Rattle.std.proofs.Common.{◌≡◌, ℕ, ◌+◌, ◌-◌, ◌≤◌, List, [], ◌∷◌, length, Bool, true, false, cond, Option, Some, None, refl, sym, ap, subst, ◌∙◌, arith, fold}
use Rattle.std.specs.Prelude.{is_some}
use Rattle.std.specs.List.{AllByRecursion}
use Rattle.std.specs.Ordering.{nat_cmp, eq_by_cmp}
use Rattle.std.specs.Cmp.{nat_cmp_total}
use Rattle.std.specs.FinMap.{FinMap, get, insert, remove, empty, get-empty, get-insert, get-remove, len, len-insert, len-remove}
use Rattle.wire_core.specs.declared.limits.TheConstants.{MAX_MESSAGE}
use Rattle.transaction_table.specs.declared.txn.Txn.{Txn}
use Rattle.transaction_table.specs.declared.txn.Outstanding.{Outstanding}
use Rattle.transaction_table.specs.declared.outbox.Message.{Message}
use Rattle.transaction_table.specs.declared.outbox.Outbox.{Outbox}
use Rattle.transaction_table.specs.declared.outbox.Request.{Request}
use Rattle.transaction_table.specs.declared.spot.Spot.{Spot}
use Rattle.transaction_table.specs.declared.spot.Spot.TheVariants.{Head, Issued}
use Rattle.transaction_table.specs.Outboxes.{opened, promoted, next_in, again_outbox, again_request, changed, replaced, next_of}
use Rattle.transaction_table.specs.Tables.{Txns, messages, txn_at, spot_of, after_answer, head_txn, request_txn, ended, repeated, ticked_at, renewed}
use Rattle.std.specs.Option.{option_map}
use Rattle.node_links.specs.Small.{AreAllSmall, AreSmall}

abbrev Fits : Message → Type 0
Fits m = length m.bytes ≤ MAX_MESSAGE

-- nothing waits
pub none_small : (t : Txns) → t.outboxes ≡ empty → t.issued ≡ empty → AreAllSmall t
none_small t no_outbox no_request = record {
  queued = λ peer o at.
      let none : get t.outboxes peer ≡ None = ap (λ (m : FinMap nat_cmp Outbox). get m peer) no_outbox ∙ get-empty nat_cmp peer in
      absurd cc;
  issued = λ id r at.
      let none : get t.issued id ≡ None = ap (λ (m : FinMap nat_cmp Request). get m id) no_request ∙ get-empty nat_cmp id in
      absurd cc;
}

-- ---- one outbox, or one request, is another

module _ (t : Txns) (s : AreAllSmall t) where
  put_small : (peer : ℕ) (o : Outbox) → AllByRecursion Fits (messages o) → AreAllSmall (record t { outboxes = insert t.outboxes peer o })
  put_small peer o fits = record {
    queued = λ k x at.
        (elim (eq_by_cmp nat_cmp k peer) as (λ b. cond b (Some o) (get t.outboxes k) ≡ Some x → AllByRecursion Fits (messages x)) [
          | true ↦ λ e. let same : o ≡ x = cc in subst (λ (y : Outbox). AllByRecursion Fits (messages y)) same fits
          | false ↦ λ e. s.queued k x e
        ]) (sym (get-insert nat_cmp_total t.outboxes peer o k) ∙ at);
    issued = s.issued;
  }

  taken_small : (peer : ℕ) → AreAllSmall (record t { outboxes = remove t.outboxes peer })
  taken_small peer = record {
    queued = λ k x at.
        (elim (eq_by_cmp nat_cmp k peer) as (λ b. cond b None (get t.outboxes k) ≡ Some x → AllByRecursion Fits (messages x)) [
          | true ↦ λ e. absurd cc
          | false ↦ λ e. s.queued k x e
        ]) (sym (get-remove nat_cmp_total t.outboxes peer k) ∙ at);
    issued = s.issued;
  }

  put_request_small : (id : ℕ) (r : Request) → Fits r.message → AreAllSmall (record t { issued = insert t.issued id r })
  put_request_small id r fits = record {
    queued = s.queued;
    issued = λ k x at.
        (elim (eq_by_cmp nat_cmp k id) as (λ b. cond b (Some r) (get t.issued k) ≡ Some x → Fits x.message) [
          | true ↦ λ e. let same : r ≡ x = cc in subst (λ (y : Request). Fits y.message) same fits
          | false ↦ λ e. s.issued k x e
        ]) (sym (get-insert nat_cmp_total t.issued id r k) ∙ at);
  }

  taken_request_small : (id : ℕ) → AreAllSmall (record t { issued = remove t.issued id })
  taken_request_small id = record {
    queued = s.queued;
    issued = λ k x at.
        (elim (eq_by_cmp nat_cmp k id) as (λ b. cond b None (get t.issued k) ≡ Some x → Fits x.message) [
          | true ↦ λ e. absurd cc
          | false ↦ λ e. s.issued k x e
        ]) (sym (get-remove nat_cmp_total t.issued id k) ∙ at);
  }

-- how many there are, where one is another, and where one is taken out
put_few : {X : Type 0} (m : FinMap nat_cmp X) (k : ℕ) (x y : X) → get m k ≡ Some x → len (insert m k y) ≤ len m
put_few m k x y at =
    omega (arith, len-insert nat_cmp_total m k y, ap (λ o. cond (is_some o) (len m) (len m + 1)) at)

taken_few : {X : Type 0} (m : FinMap nat_cmp X) (k : ℕ) → len (remove m k) ≤ len m
taken_few m k = omega (arith, len-remove nat_cmp_total m k, by_there (is_some (get m k)))
  where
    by_there : (b : Bool) → cond b (len m - 1) (len m) ≤ len m
    by_there true = omega arith
    by_there false = omega arith

-- ---- transactions that are no more, and no larger

pub record AreFewer (t u : Txns) : Type 0 where
  pub few : len u.outboxes + len u.issued ≤ len t.outboxes + len t.issued
  pub small : AreAllSmall t → AreAllSmall u

same_fewer : (t : Txns) → AreFewer t t
same_fewer t = record { few = omega arith; small = λ s. s }

after_fewer : (t u v : Txns) → AreFewer t u → AreFewer u v → AreFewer t v
after_fewer t u v one two = record { few = omega (arith, one.few, two.few); small = λ s. two.small (one.small s) }

-- the head of an outbox ends
next_fewer : (now peer : ℕ) (t : Txns) (there : Option Outbox) → get t.outboxes peer ≡ there → AreFewer t (record t { outboxes = next_of now peer t.outboxes there })
next_fewer now peer t None at = record { few = omega (arith, taken_few t.outboxes peer); small = λ s. taken_small t s peer }
next_fewer now peer t (Some o) at =
    elim o.waiting as (λ ws. ((s : AreAllSmall t) → AllByRecursion Fits ws) → AreFewer t (record t { outboxes = replaced peer t.outboxes (elim ws [ [] ↦ None | m ∷ ms ↦ Some (opened now m ms) ]) })) [
      | [] ↦ λ fits. record { few = omega (arith, taken_few t.outboxes peer); small = λ s. taken_small t s peer }
      | m ∷ ms ↦ λ fits. record {
        few = omega (arith, put_few t.outboxes peer o (opened now m ms) at);
        small = λ s. put_small t s peer (opened now m ms) (fits s);
      }
    ] (λ s. (s.queued peer o at).1)

ended_fewer : (now : ℕ) (s : Spot) (t : Txns) → AreFewer t (ended now s t)
ended_fewer now (Head peer) t = next_fewer now peer t (get t.outboxes peer) refl
ended_fewer now (Issued id) t = record { few = omega (arith, taken_few t.issued id); small = λ s. taken_request_small t s id }

-- an answer comes
pub answered_fewer : (now peer id : ℕ) (t : Txns) → AreFewer t (after_answer now peer id t)
answered_fewer now peer id t =
    elim (spot_of peer id t) as (λ o. AreFewer t (elim o [ None ↦ t | Some s ↦ ended now s t ])) [
      | None ↦ same_fewer t
      | Some s ↦ ended_fewer now s t
    ]

-- a message is sent again
again_fewer : (now peer : ℕ) (t : Txns) (there : Option Outbox) → get t.outboxes peer ≡ there → AreFewer t (record t { outboxes = changed (again_outbox now) peer t.outboxes there })
again_fewer now peer t None at = same_fewer t
again_fewer now peer t (Some o) at = record {
  few = omega (arith, put_few t.outboxes peer o (again_outbox now o) at);
  small = λ s. put_small t s peer (again_outbox now o) (s.queued peer o at);
}

again_request_fewer : (now id : ℕ) (t : Txns) (there : Option Request) → get t.issued id ≡ there → AreFewer t (record t { issued = changed (again_request now) id t.issued there })
again_request_fewer now id t None at = same_fewer t
again_request_fewer now id t (Some r) at = record {
  few = omega (arith, put_few t.issued id r (again_request now r) at);
  small = λ s. put_request_small t s id (again_request now r) (s.issued id r at);
}

repeated_fewer : (now : ℕ) (s : Spot) (t : Txns) → AreFewer t (repeated now s t)
repeated_fewer now (Head peer) t = again_fewer now peer t (get t.outboxes peer) refl
repeated_fewer now (Issued id) t = again_request_fewer now id t (get t.issued id) refl

renewed_fewer : (now : ℕ) (s : Spot) (t : Txns) → AreFewer t (renewed now None t s)
unfolding renewed
renewed_fewer now s t =
    elim (txn_at s t) as (λ o. AreFewer t (ticked_at now None t s o).1) [
      | None ↦ same_fewer t
      | Some x ↦ repeated_fewer now s t
    ]

pub all_fewer : (now : ℕ) (spots : List Spot) (t : Txns) → AreFewer t (fold (renewed now None) t spots)
all_fewer now [] t = same_fewer t
all_fewer now (s ∷ spots) t =
    after_fewer t (renewed now None t s) _ (renewed_fewer now s t) (all_fewer now spots (renewed now None t s))

-- ---- what is outstanding, and what is next

head_small : (peer : ℕ) (o : Option Outbox) (x : Txn Outstanding) → ((b : Outbox) → o ≡ Some b → AllByRecursion Fits (messages b)) → option_map (head_txn peer) o ≡ Some x → length x.message ≤ MAX_MESSAGE
head_small peer None x fits e = absurd cc
head_small peer (Some b) x fits e =
    let same : head_txn peer b ≡ x = cc in
    subst (λ (y : Txn Outstanding). length y.message ≤ MAX_MESSAGE) same (fits b refl).0

request_small : (o : Option Request) (x : Txn Outstanding) → ((r : Request) → o ≡ Some r → Fits r.message) → option_map request_txn o ≡ Some x → length x.message ≤ MAX_MESSAGE
request_small None x fits e = absurd cc
request_small (Some r) x fits e =
    let same : request_txn r ≡ x = cc in
    subst (λ (y : Txn Outstanding). length y.message ≤ MAX_MESSAGE) same (fits r refl)

pub outstanding_small : (t : Txns) → AreAllSmall t → AreSmall t
outstanding_small t s (Head peer) x e = head_small peer (get t.outboxes peer) x (λ b at. s.queued peer b at) e
outstanding_small t s (Issued id) x e = request_small (get t.issued id) x (λ r at. s.issued id r at) e

promoted_small : (now : ℕ) (o : Outbox) (bytes : List ℕ) → AllByRecursion Fits (messages o) → Some bytes ≡ option_map (λ (b : Outbox). b.head.bytes) (promoted now o) → length bytes ≤ MAX_MESSAGE
promoted_small now o bytes fits =
    elim o.waiting as (λ ws. AllByRecursion Fits ws → Some bytes ≡ option_map (λ (b : Outbox). b.head.bytes) (elim ws [ [] ↦ None | m ∷ ms ↦ Some (opened now m ms) ]) → length bytes ≤ MAX_MESSAGE) [
      | [] ↦ λ all e. absurd cc
      | m ∷ ms ↦ λ all e. let same : m.bytes ≡ bytes = cc in subst (λ bs. length bs ≤ MAX_MESSAGE) same all.0
    ] fits.1

pub next_small : (now : ℕ) (there : Option Outbox) (bytes : List ℕ) → ((o : Outbox) → there ≡ Some o → AllByRecursion Fits (messages o)) → Some bytes ≡ option_map (λ (b : Outbox). b.head.bytes) (next_in now there) → length bytes ≤ MAX_MESSAGE
next_small now None bytes fits e = absurd cc
next_small now (Some o) bytes fits e = promoted_small now o bytes (fits o refl) e
