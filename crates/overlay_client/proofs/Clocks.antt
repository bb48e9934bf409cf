-- A client once what is due was sent again, or ended.
use Rattle.std.proofs.Common.{◌≡◌, ℕ, zero, suc, ◌≤◌, ◌==◌, Bool, true, false, cond, List, [], ◌∷◌, ◌++◌, length, Option, Some, None, refl, sym, ap, subst, ◌∙◌, arith}
use Rattle.std.specs.Prelude.{fold, nat_le, if◌then◌else◌}
use Rattle.std.specs.List.{AllByRecursion, cons_option}
use Rattle.std.specs.Option.{option_map, option_and_then}
use Rattle.std.specs.Ordering.{nat_cmp, eq_by_cmp}
use Rattle.std.specs.Cmp.{nat_cmp_total}
use Rattle.std.specs.FinMap.{FinMap, nat_cmp-IsAntisymmetric, get, insert, remove, empty, entries, get-remove}
use Rattle.wire_core.specs.declared.limits.TheConstants.{MAX_MESSAGE}
use Rattle.std.proofs.lemmas.Bool.Decides.{nat_tests}
use Rattle.transaction_table.specs.declared.txn.Txn.{Txn}
use Rattle.transaction_table.specs.declared.txn.Outstanding.{Outstanding}
use Rattle.transaction_table.specs.declared.again.Ticked.{Ticked}
use Rattle.transaction_table.specs.declared.again.Ticked.TheVariants as tick
use Rattle.transaction_table.specs.declared.outbox.Request.{Request}
use Rattle.transaction_table.specs.declared.spot.Spot.{Spot}
use Rattle.transaction_table.specs.declared.spot.Spot.TheVariants.{Head, Issued}
use Rattle.transaction_table.specs.declared.spot.Timer.{Timer}
use Rattle.transaction_table.specs.Sends.{is_over, timed_out}
use Rattle.transaction_table.specs.Outboxes.{again_request, changed}
use Rattle.transaction_table.specs.Tables.{Txns, head_timers, request_timers, timers, first_from, comes_before, others, due_in, due_spots, txn_at, request_txn, ended, repeated, ticked_at, renewed}
use Rattle.transaction_table.proofs.Timers.{all_in}
use Rattle.transaction_table.proofs.NumberMaps.{equal_of}
use Rattle.ordered_tables.proofs.Finite.{get-insert_elsewhere}
use Rattle.node_model.specs.declared.question.Question.{Question}
use Rattle.node_model.specs.Nodes.{Node}
use Rattle.node_model.specs.Clocks.{id_over, ids_over}
use Rattle.node_links.specs.Small.{AreSmall}
use Rattle.overlay_client.specs.Sound.{IsSound, client_of}
use Rattle.overlay_client.proofs.Tables.{none_in}
use Rattle.overlay_client.proofs.Sounds.{node_sound, ended_sound, again_sound}

-- each outstanding transaction of a client is small
pub are_small : (n : Node) (t : Txns) (q : FinMap nat_cmp Question) → IsSound (client_of n t q) → AreSmall t
are_small n t q s (Head p) x is =
    let none : txn_at (Head p) t ≡ None = ap (option_map _) (none_in p t.outboxes s.none_queued) in absurd cc
are_small n t q s (Issued id) x is = by_request (get t.issued id) refl is
  where
    by_request : (o : Option Request) → get t.issued id ≡ o → option_map request_txn o ≡ Some x → length x.message ≤ MAX_MESSAGE
    by_request None e f = absurd cc
    by_request (Some r) e f =
        let same : request_txn r ≡ x = cc in
        subst (λ (y : Txn Outstanding). length y.message ≤ MAX_MESSAGE) same (s.small id r e)

-- ---- what is due of a client are requests, each once

-- spots of requests with other ids
abbrev pub AreOwn : List Spot → Type 0
AreOwn [] = Unit {0}
AreOwn (s ∷ ss) = (id : ℕ) × (s ≡ Issued id) × AllByRecursion (λ o. o ≡ s → ⊥) ss × AreOwn ss

abbrev IsOwn : Timer → Type 0
IsOwn x = x.spot ≡ Issued x.id

module _ (P : Timer → Type 0) where
  first_has : (b : Option Timer) (ts : List Timer) → ((y : Timer) → b ≡ Some y → P y) → AllByRecursion P ts → (x : Timer) → first_from b ts ≡ Some x → P x
  first_has b [] h a x e = h x e
  first_has None (y ∷ ys) h a x e = first_has (Some y) ys (λ z f. let same : y ≡ z = cc in subst P same a.0) a.1 x e
  first_has (Some z) (y ∷ ys) h a x e =
      first_has (cond (comes_before y z) (Some y) (Some z)) ys (λ w f. either (comes_before y z) w f) a.1 x e
    where
      either : (b : Bool) (w : Timer) → cond b (Some y) (Some z) ≡ Some w → P w
      either true w f = let same : y ≡ w = cc in subst P same a.0
      either false w f = let same : z ≡ w = cc in subst P same (h z refl)

  others_have : (id : ℕ) (ts : List Timer) → AllByRecursion P ts → AllByRecursion P (others id ts)
  others_have id [] a = tt
  others_have id (y ∷ ys) a =
      let rest = others_have id ys a.1 in
      elim (y.id == id) as (λ b. AllByRecursion P (cond b (others id ys) (y ∷ others id ys))) [ true ↦ rest | false ↦ (a.0, rest) ]

not_same : (a b : ℕ) → (a == b) ≡ false → a ≡ b → ⊥
not_same a b n e = grind (arith, nat_tests, n, e)

others_differ : (id : ℕ) (ts : List Timer) → AllByRecursion (λ y. y.id ≡ id → ⊥) (others id ts)
others_differ id [] = tt
others_differ id (y ∷ ys) =
    let rest = others_differ id ys in
    elim (y.id == id) as (λ b. (y.id == id) ≡ b → AllByRecursion (λ z. z.id ≡ id → ⊥) (cond b (others id ys) (y ∷ others id ys))) [
      | true ↦ λ e. rest
      | false ↦ λ e. (not_same y.id id e, rest)
    ] refl

both_hold : (P Q : Timer → Type 0) (ts : List Timer) → AllByRecursion P ts → AllByRecursion Q ts → AllByRecursion (λ x. P x × Q x) ts
both_hold P Q [] a b = tt
both_hold P Q (t ∷ ts) a b = ((a.0, b.0), both_hold P Q ts a.1 b.1)

each_due : (P : Spot → Type 0) (Q : Timer → Type 0) → ((x : Timer) → Q x → P x.spot) → (n now : ℕ) (ts : List Timer) → AllByRecursion Q ts → AllByRecursion P (due_in n now ts)
each_due P Q f zero now ts a = tt
each_due P Q f (suc n) now ts a = by_first (first_from None ts) refl (λ x. each_due P Q f n now (others x.id ts) (others_have Q x.id ts a))
  where
    by_first : (o : Option Timer) → first_from None ts ≡ o → ((x : Timer) → AllByRecursion P (due_in n now (others x.id ts)))
        → AllByRecursion P (elim o [ None ↦ [] | Some x ↦ cond (nat_le x.due now) (x.spot ∷ due_in n now (others x.id ts)) [] ])
    by_first None e r = tt
    by_first (Some x) e r = by_time (nat_le x.due now)
      where
        by_time : (b : Bool) → AllByRecursion P (cond b (x.spot ∷ due_in n now (others x.id ts)) [])
        by_time true = (f x (first_has Q None ts (λ y g. absurd cc) a x e), r x)
        by_time false = tt

own_in : (n now : ℕ) (ts : List Timer) → AllByRecursion IsOwn ts → AreOwn (due_in n now ts)
own_in zero now ts a = tt
own_in (suc n) now ts a = by_first (first_from None ts) refl (λ x. own_in n now (others x.id ts) (others_have IsOwn x.id ts a))
  where
    by_first : (o : Option Timer) → first_from None ts ≡ o → ((x : Timer) → AreOwn (due_in n now (others x.id ts)))
        → AreOwn (elim o [ None ↦ [] | Some x ↦ cond (nat_le x.due now) (x.spot ∷ due_in n now (others x.id ts)) [] ])
    by_first None e r = tt
    by_first (Some x) e r = by_time (nat_le x.due now)
      where
        own : IsOwn x
        own = first_has IsOwn None ts (λ y g. absurd cc) a x e

        differs : (y : Timer) → IsOwn y × (y.id ≡ x.id → ⊥) → y.spot ≡ x.spot → ⊥
        differs y h same =
            let ids : Issued y.id ≡ Issued x.id = sym h.0 ∙ same ∙ own in
            h.1 (ap (λ (s : Spot). elim s [ Head p ↦ 0 | Issued i ↦ i ]) ids)

        by_time : (b : Bool) → AreOwn (cond b (x.spot ∷ due_in n now (others x.id ts)) [])
        by_time true =
            (x.id, own, each_due (λ s. s ≡ x.spot → ⊥) (λ y. IsOwn y × (y.id ≡ x.id → ⊥)) differs n now (others x.id ts) (both_hold IsOwn (λ y. y.id ≡ x.id → ⊥) (others x.id ts) (others_have IsOwn x.id ts a) (others_differ x.id ts)), r x)
        by_time false = tt

pub own_due : (now : ℕ) (t : Txns) → t.outboxes ≡ empty → AreOwn (due_spots now t)
unfolding due_spots
own_due now t e =
    own_in (length (timers t)) now (timers t)
    (both (head_timers (entries t.outboxes)) (request_timers (entries t.issued))
    (all_in (λ f. record { due = f.1.due; id = f.1.head.id; spot = Head f.0 }) IsOwn t.outboxes (λ k v g. let none : get t.outboxes k ≡ None = none_in k t.outboxes e in absurd cc))
    (all_in (λ f. record { due = f.1.due; id = f.1.message.id; spot = Issued f.1.message.id }) IsOwn t.issued (λ k v g. refl)))
  where
    both : (xs ys : List Timer) → AllByRecursion IsOwn xs → AllByRecursion IsOwn ys → AllByRecursion IsOwn (xs ++ ys)
    both [] ys a b = b
    both (x ∷ xs) ys a b = (a.0, both xs ys a.1 b)

-- ---- each of them is sent again, or ends

elsewhere : (k id : ℕ) → (k ≡ id → ⊥) → eq_by_cmp nat_cmp k id ≡ false
elsewhere k id n = by_test (eq_by_cmp nat_cmp k id) refl
  where
    by_test : (b : Bool) → eq_by_cmp nat_cmp k id ≡ b → b ≡ false
    by_test true e = absurd (n (nat_cmp-IsAntisymmetric k id (equal_of (nat_cmp k id) e)))
    by_test false e = refl

-- a question is dropped, if one is
abbrev dropped : Option ℕ → FinMap nat_cmp Question → FinMap nat_cmp Question
dropped None q = q
dropped (Some id) q = remove q id

drop_next : (o : Option ℕ) (ids : List ℕ) (q : FinMap nat_cmp Question) → fold remove q (cons_option o ids) ≡ fold remove (dropped o q) ids
drop_next None ids q = refl
drop_next (Some id) ids q = refl

module _ (now : ℕ) (limit : Option ℕ) (t : Txns) (id : ℕ) where
  renewed_none : get t.issued id ≡ None → renewed now limit t (Issued id) ≡ t
  unfolding renewed
  renewed_none e = ap (λ (o : Option Request). (ticked_at now limit t (Issued id) (option_map request_txn o)).1) e

  -- one that is there
  renewed_some : (r : Request) → get t.issued id ≡ Some r
      → renewed now limit t (Issued id) ≡ cond (is_over limit r.sends) (record t { issued = remove t.issued id }) (record t { issued = insert t.issued id (again_request now r) })
  unfolding renewed
  renewed_some r e =
      ap (λ (o : Option Request). (ticked_at now limit t (Issued id) (option_map request_txn o)).1) e ∙ by_test (is_over limit r.sends)
    where
      by_test : (b : Bool) → (cond {A = Ticked × Txns} b (tick.Over (timed_out (request_txn r)), ended now (Issued id) t) (tick.Sent r.peer r.message.id, repeated now (Issued id) t)).1
          ≡ cond b (record t { issued = remove t.issued id }) (record t { issued = insert t.issued id (again_request now r) })
      by_test true = refl
      by_test false = ap (λ (o : Option Request). record t { issued = changed (again_request now) id t.issued o }) e

  -- the others stay as they are
  other_stays : (k : ℕ) → (k ≡ id → ⊥) → get (renewed now limit t (Issued id)).issued k ≡ get t.issued k
  other_stays k n = by_request (get t.issued id) refl
    where
      by_test : (b : Bool) (r : Request) → get (cond b (record t { issued = remove t.issued id }) (record t { issued = insert t.issued id (again_request now r) })).issued k ≡ get t.issued k
      by_test true r = get-remove nat_cmp_total t.issued id k ∙ ap (λ b. cond b None (get t.issued k)) (elsewhere k id n)
      by_test false r = get-insert_elsewhere nat_cmp_total t.issued id k (again_request now r) (elsewhere k id n)

      by_request : (o : Option Request) → get t.issued id ≡ o → get (renewed now limit t (Issued id)).issued k ≡ get t.issued k
      by_request None e = ap (λ (u : Txns). get u.issued k) (renewed_none e)
      by_request (Some r) e = ap (λ (u : Txns). get u.issued k) (renewed_some r e) ∙ by_test (is_over limit r.sends) r

  one_sound : (n : Node) (q : FinMap nat_cmp Question) → IsSound (client_of n t q)
      → IsSound (client_of n (renewed now limit t (Issued id)) (dropped (option_and_then (id_over limit) (txn_at (Issued id) t)) q))
  one_sound n q s = by_request (get t.issued id) refl
    where
      by_test : (b : Bool) (r : Request) → get t.issued id ≡ Some r
          → IsSound (client_of n (cond b (record t { issued = remove t.issued id }) (record t { issued = insert t.issued id (again_request now r) })) (dropped (if b then Some r.message.id else None) q))
      by_test true r e =
          subst (λ (i : ℕ). IsSound (client_of n (record t { issued = remove t.issued id }) (remove q i))) (sym (s.named id r e)) (ended_sound id n t q s)
      by_test false r e = again_sound id r (again_request now r) n t q s e refl

      by_request : (o : Option Request) → get t.issued id ≡ o
          → IsSound (client_of n (renewed now limit t (Issued id)) (dropped (option_and_then (id_over limit) (option_map request_txn (get t.issued id))) q))
      by_request None e =
          subst (λ (o : Option Request). IsSound (client_of n (renewed now limit t (Issued id)) (dropped (option_and_then (id_over limit) (option_map request_txn o)) q))) (sym e)
          (subst (λ (u : Txns). IsSound (client_of n u q)) (sym (renewed_none e)) s)
      by_request (Some r) e =
          subst (λ (o : Option Request). IsSound (client_of n (renewed now limit t (Issued id)) (dropped (option_and_then (id_over limit) (option_map request_txn o)) q))) (sym e)
          (subst (λ (u : Txns). IsSound (client_of n u (dropped (if is_over limit r.sends then Some r.message.id else None) q))) (sym (renewed_some r e))
          (by_test (is_over limit r.sends) r e))

-- what is at other spots stays as it is
others_stay : (now : ℕ) (limit : Option ℕ) (first t : Txns) (x : Spot) (id : ℕ) → x ≡ Issued id → (ss : List Spot) → AreOwn ss → AllByRecursion (λ s. s ≡ x → ⊥) ss
    → AllByRecursion (λ s. txn_at s t ≡ txn_at s first) ss → AllByRecursion (λ s. txn_at s (renewed now limit t x) ≡ txn_at s first) ss
others_stay now limit first t x id e [] o d a = tt
others_stay now limit first t x id e (s ∷ ss) o d a =
    (stays, others_stay now limit first t x id e ss o.3 d.1 a.1)
  where
    apart : o.0 ≡ id → ⊥
    apart same = d.0 (o.1 ∙ ap Issued same ∙ sym e)

    stays : txn_at s (renewed now limit t x) ≡ txn_at s first
    stays =
        ap (λ y. txn_at s (renewed now limit t y)) e ∙ ap (λ y. txn_at y (renewed now limit t (Issued id))) o.1
        ∙ ap (option_map request_txn) (other_stays now limit t id o.0 apart)
        ∙ ap (λ y. txn_at y t) (sym o.1) ∙ a.0

all_sound : (now : ℕ) (limit : Option ℕ) (n : Node) (first : Txns) (ss : List Spot) (t : Txns) (q : FinMap nat_cmp Question) → IsSound (client_of n t q) → AreOwn ss
    → AllByRecursion (λ s. txn_at s t ≡ txn_at s first) ss → IsSound (client_of n (fold (renewed now limit) t ss) (fold remove q (ids_over limit first ss)))
unfolding ids_over
all_sound now limit n first [] t q s o a = s
all_sound now limit n first (x ∷ ss) t q s o a =
    let f : Txns → Option ℕ = λ u. option_and_then (id_over limit) (txn_at x u) in
    let one : IsSound (client_of n (renewed now limit t x) (dropped (f t) q)) =
    subst (λ (y : Spot). IsSound (client_of n (renewed now limit t y) (dropped (option_and_then (id_over limit) (txn_at y t)) q))) (sym o.1) (one_sound now limit t o.0 n q s) in
    let two : IsSound (client_of n (renewed now limit t x) (dropped (f first) q)) =
    subst (λ (y : Option (Txn Outstanding)). IsSound (client_of n (renewed now limit t x) (dropped (option_and_then (id_over limit) y) q))) a.0 one in
    subst (λ (m : FinMap nat_cmp Question). IsSound (client_of n (fold (renewed now limit) (renewed now limit t x) ss) m))
    (sym (drop_next (f first) (ids_over limit first ss) q))
    (all_sound now limit n first ss (renewed now limit t x) (dropped (f first) q) two o.3 (others_stay now limit first t x o.0 o.1 ss o.3 o.2 a.1))

-- a client after a clock move
pub clocked_sound : (now : ℕ) (limit : Option ℕ) (n m : Node) (t u : Txns) (q r : FinMap nat_cmp Question) → IsSound (client_of n t q)
    → m.about ≡ n.about → m.number ≡ n.number → m.ids ≡ n.ids
    → u ≡ fold (renewed now limit) t (due_spots now t) → r ≡ fold remove q (ids_over limit t (due_spots now t)) → IsSound (client_of m u r)
clocked_sound now limit n m t u q r s about number ids eu er =
    subst (λ (x : Txns). IsSound (client_of m x r)) (sym eu)
    (subst (λ (x : FinMap nat_cmp Question). IsSound (client_of m (fold (renewed now limit) t (due_spots now t)) x)) (sym er)
    (node_sound n m (fold (renewed now limit) t (due_spots now t)) (fold remove q (ids_over limit t (due_spots now t)))
    (all_sound now limit n t (due_spots now t) t q s (own_due now t s.none_queued) (same_all (due_spots now t))) about number ids))
  where
    same_all : (ss : List Spot) → AllByRecursion (λ s. txn_at s t ≡ txn_at s t) ss
    same_all [] = tt
    same_all (s ∷ ss) = (refl, same_all ss)
