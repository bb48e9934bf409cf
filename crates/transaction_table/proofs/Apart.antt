-- Transactions whose ids are apart.
use Rattle.std.proofs.Common.{◌≡◌, ℕ, Bool, true, false, cond, List, [], ◌∷◌, ◌++◌, refl, sym, subst, ◌∙◌}
use Rattle.std.specs.Prelude.{Option, Some, None}
use Rattle.std.specs.List.{AllByRecursion}
use Rattle.std.specs.Ordering.{nat_cmp, eq_by_cmp}
use Rattle.std.specs.Cmp.{nat_cmp_total}
use Rattle.std.specs.FinMap.{FinMap, get, insert, remove, empty, get-insert, get-remove, get-empty, nat_cmp-IsAntisymmetric}
use Rattle.transaction_table.specs.declared.outbox.Message.{Message}
use Rattle.transaction_table.specs.declared.outbox.Outbox.{Outbox}
use Rattle.transaction_table.specs.declared.outbox.Request.{Request}
use Rattle.transaction_table.specs.Outboxes.{HasLost, opened, behind, next_of, replaced, changed}
use Rattle.transaction_table.specs.Tables.{Txns, Outboxes, Requests, messages, HasNot, AreDistinct, IsApart, AreApart, IsNew}
use Rattle.transaction_table.proofs.NumberMaps.{equal_of}

module _ {X : Type 0} (m : FinMap nat_cmp X) (k q : ℕ) where
  -- what there is at a key after a value is put
  pub put_cases : (x y : X) (P : X → Type 0) → get (insert m k x) q ≡ Some y → P x → (get m q ≡ Some y → P y) → P y
  put_cases x y P e here there = by_key (eq_by_cmp nat_cmp q k) (sym (get-insert nat_cmp_total m k x q) ∙ e)
    where
      by_key : (b : Bool) → cond b (Some x) (get m q) ≡ Some y → P y
      by_key true e = let same : x ≡ y = cc in subst P same here
      by_key false e = there e

  -- what there is at a key after one is taken out
  pub removed_cases : (y : X) → get (remove m k) q ≡ Some y → get m q ≡ Some y
  removed_cases y e = by_key (eq_by_cmp nat_cmp q k) (sym (get-remove nat_cmp_total m k q) ∙ e)
    where
      by_key : (b : Bool) → cond b None (get m q) ≡ Some y → get m q ≡ Some y
      by_key true e = absurd (cc)
      by_key false e = e

  pub none_after_put : (x : X) → get m q ≡ None → (q ≡ k → ⊥) → get (insert m k x) q ≡ None
  none_after_put x e n = get-insert nat_cmp_total m k x q ∙ by_key (eq_by_cmp nat_cmp q k) refl
    where
      by_key : (b : Bool) → eq_by_cmp nat_cmp q k ≡ b → cond b (Some x) (get m q) ≡ None
      by_key true t = absurd (n (nat_cmp-IsAntisymmetric q k (equal_of (nat_cmp q k) t)))
      by_key false t = e

  pub none_after_removal : get m q ≡ None → get (remove m k) q ≡ None
  none_after_removal e = get-remove nat_cmp_total m k q ∙ by_key (eq_by_cmp nat_cmp q k)
    where
      by_key : (b : Bool) → cond b None (get m q) ≡ None
      by_key true = refl
      by_key false = e

all-map : (P Q : Message → Type 0) → ((m : Message) → P m → Q m) → (ms : List Message) → AllByRecursion P ms → AllByRecursion Q ms
all-map P Q f [] h = tt
all-map P Q f (m ∷ ms) h = (f m h.0, all-map P Q f ms h.1)

all-both : (P Q : Message → Type 0) (ms : List Message) → AllByRecursion P ms → AllByRecursion Q ms → AllByRecursion (λ m. P m × Q m) ms
all-both P Q [] h k = tt
all-both P Q (m ∷ ms) h k = ((h.0, k.0), all-both P Q ms h.1 k.1)

pub all-push : (P : Message → Type 0) (ms : List Message) (m : Message) → AllByRecursion P ms → P m → AllByRecursion P (ms ++ m ∷ [])
all-push P [] m h p = (p, tt)
all-push P (x ∷ ms) m h p = (h.0, all-push P ms m h.1 p)

distinct_push : (ms : List Message) (m : Message) → AreDistinct ms → AllByRecursion (λ n. n.id ≡ m.id → ⊥) ms → AreDistinct (ms ++ m ∷ [])
distinct_push [] m d h = (tt, tt)
distinct_push (x ∷ ms) m d h = (all-push (λ n. n.id ≡ x.id → ⊥) ms m d.0 (λ e. h.0 (sym e)), distinct_push ms m d.1 h.1)

pub all-front : (P : Message → Type 0) (ms : List Message) (m : Message) → AllByRecursion P (ms ++ m ∷ []) → AllByRecursion P ms
all-front P [] m h = tt
all-front P (x ∷ ms) m h = (h.0, all-front P ms m h.1)

distinct_front : (ms : List Message) (m : Message) → AreDistinct (ms ++ m ∷ []) → AreDistinct ms
distinct_front [] m d = tt
distinct_front (x ∷ ms) m d = (all-front (λ n. n.id ≡ x.id → ⊥) ms m d.0, distinct_front ms m d.1)

-- the empty table
pub apart_empty : AreApart (record { outboxes = empty; issued = empty })
apart_empty = record { apart = λ peer o e. absurd (none_some o (get empty peer) (get-empty nat_cmp peer) e) }
  where
    none_some : (o : Outbox) (x : Option Outbox) → x ≡ None → x ≡ Some o → ⊥
    none_some o x p q = cc

pub with_outboxes : (os ps : Outboxes) (rs : Requests) → os ≡ ps → AreApart (record { outboxes = ps; issued = rs }) → AreApart (record { outboxes = os; issued = rs })
with_outboxes os ps rs e a = subst (λ (x : Outboxes). AreApart (record { outboxes = x; issued = rs })) (sym e) a

pub with_issued : (os : Outboxes) (rs qs : Requests) → rs ≡ qs → AreApart (record { outboxes = os; issued = qs }) → AreApart (record { outboxes = os; issued = rs })
with_issued os rs qs e a = subst (λ (x : Requests). AreApart (record { outboxes = os; issued = x })) (sym e) a

module _ (t : Txns) (a : AreApart t) where
  pub apart_put : (k : ℕ) (o : Outbox) → IsApart t.issued o → AreApart (record t { outboxes = insert t.outboxes k o })
  apart_put k o h = record { apart = λ peer p e. put_cases t.outboxes k peer o p (IsApart t.issued) e h (a.apart peer p) }

  pub apart_removed : (k : ℕ) → AreApart (record t { outboxes = remove t.outboxes k })
  apart_removed k = record { apart = λ peer p e. a.apart peer p (removed_cases t.outboxes k peer p e) }

  pub apart_issued : (id : ℕ) (r : Request) → ((peer : ℕ) (o : Outbox) → get t.outboxes peer ≡ Some o → HasNot id o) → AreApart (record t { issued = insert t.issued id r })
  apart_issued id r n = record {
    apart = λ peer o e.
        ((a.apart peer o e).0, all-map _ (λ m. get (insert t.issued id r) m.id ≡ None) (λ m h. none_after_put t.issued id m.id r h.0 h.1) (messages o) (all-both (λ m. get t.issued m.id ≡ None) (λ m. m.id ≡ id → ⊥) (messages o) (a.apart peer o e).1 (n peer o e)));
  }

  pub apart_ended : (id : ℕ) → AreApart (record t { issued = remove t.issued id })
  apart_ended id = record {
    apart = λ peer o e.
        ((a.apart peer o e).0, all-map (λ m. get t.issued m.id ≡ None) (λ m. get (remove t.issued id) m.id ≡ None) (λ m h. none_after_removal t.issued id m.id h) (messages o) (a.apart peer o e).1);
  }

  pub apart_changed_request : (f : Request → Request) (id : ℕ) (there : Option Request) → get t.issued id ≡ there → AreApart (record t { issued = changed f id t.issued there })
  apart_changed_request f id None g = a
  apart_changed_request f id (Some r) g = record {
    apart = λ peer o e.
        ((a.apart peer o e).0, all-map (λ m. get t.issued m.id ≡ None) (λ m. get (insert t.issued id (f r)) m.id ≡ None) (λ m h. none_after_put t.issued id m.id (f r) h (λ s. differ m.id s h)) (messages o) (a.apart peer o e).1);
  }
    where
      differ : (q : ℕ) → q ≡ id → get t.issued q ≡ None → ⊥
      differ q s h = let h2 : get t.issued id ≡ None = subst (λ x. get t.issued x ≡ None) s h in cc

  pub apart_changed_outbox : (f : Outbox → Outbox) (k : ℕ) (there : Option Outbox) → get t.outboxes k ≡ there → ((o : Outbox) → get t.outboxes k ≡ Some o → IsApart t.issued (f o)) → AreApart (record t { outboxes = changed f k t.outboxes there })
  apart_changed_outbox f k None g h = a
  apart_changed_outbox f k (Some o) g h = apart_put k (f o) (h o g)

  pub apart_next : (now k : ℕ) (there : Option Outbox) → get t.outboxes k ≡ there → AreApart (record t { outboxes = next_of now k t.outboxes there })
  apart_next now k None g = apart_removed k
  apart_next now k (Some o) g = by_waiting o.waiting (a.apart k o g)
    where
      by_waiting : (ms : List Message) → AreDistinct (o.head ∷ ms) × AllByRecursion (λ m. get t.issued m.id ≡ None) (o.head ∷ ms)
          → AreApart (record t { outboxes = replaced k t.outboxes (elim ms [ [] ↦ None | m ∷ rest ↦ Some (opened now m rest) ]) })
      by_waiting [] h = apart_removed k
      by_waiting (m ∷ rest) h = apart_put k (opened now m rest) (h.0.1, h.1.1)

-- a message with a new id behind the others
pub apart_behind : (m : Message) (o : Outbox) (rs : Requests) → IsApart rs o → HasNot m.id o → get rs m.id ≡ None → IsApart rs (behind m o)
apart_behind m o rs h n g =
    (distinct_push (o.head ∷ o.waiting) m h.0 n, all-push (λ m. get rs m.id ≡ None) (o.head ∷ o.waiting) m h.1 g)

-- the others before the last message
pub apart_before : (m : Message) (o : Outbox) (rs : Requests) → IsApart rs (behind m o) → IsApart rs o
apart_before m o rs h =
    (distinct_front (o.head ∷ o.waiting) m h.0, all-front (λ m. get rs m.id ≡ None) (o.head ∷ o.waiting) m h.1)

-- an outbox whose last message is taken out
pub apart_lost : (t : Txns) → AreApart t → (m : Message) (k : ℕ) (os : Outboxes) → HasLost m k t.outboxes os → AreApart (record { outboxes = os; issued = t.issued })
apart_lost t a m k os h =
    with_outboxes os _ t.issued h.2 (apart_put t a k h.0 (apart_before m h.0 t.issued (a.apart k (behind m h.0) h.1)))

module _ (t : Txns) (a : AreApart t) (m : Message) (n : IsNew m.id t) where
  pub apart_queued : (k : ℕ) (os : Outboxes) → os ≡ changed (behind m) k t.outboxes (get t.outboxes k) → AreApart (record { outboxes = os; issued = t.issued })
  apart_queued k os e =
      with_outboxes os _ t.issued e (apart_changed_outbox t a (behind m) k (get t.outboxes k) refl (λ o g. apart_behind m o t.issued (a.apart k o g) (n.0 k o g) n.1))

  pub apart_opened : (now k : ℕ) (os : Outboxes) → os ≡ insert t.outboxes k (opened now m []) → AreApart (record { outboxes = os; issued = t.issued })
  apart_opened now k os e = with_outboxes os _ t.issued e (apart_put t a k (opened now m []) ((tt, tt), (n.1, tt)))
