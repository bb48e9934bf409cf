-- When the transactions of a node are due, while they change.
use Rattle.std.proofs.Common.{◌≡◌, ℕ, ◌==◌, Bool, true, false, cond, List, [], ◌∷◌, refl, ap, sym, subst, ◌∙◌}
use Rattle.std.specs.Prelude.{Option, Some, None}
use Rattle.std.specs.List.{AllByRecursion}
use Rattle.std.specs.Ordering.{nat_cmp, eq_by_cmp}
use Rattle.std.specs.Cmp.{nat_cmp_total}
use Rattle.std.specs.FinMap.{FinMap, get, insert, remove, empty, get-insert, get-remove, get-empty, same_map, nat_cmp-IsAntisymmetric}
use Rattle.due_list.proofs.Ids.{same_id, other_id, one_id, not_same}
use Rattle.transaction_table.specs.declared.outbox.Message.{Message}
use Rattle.transaction_table.specs.declared.outbox.Outbox.{Outbox}
use Rattle.transaction_table.specs.declared.outbox.Request.{Request}
use Rattle.transaction_table.specs.Tables.{Txns, messages, HasNot, AreApart}
use Rattle.transaction_table.specs.Timed.{Time, IsThere, AreTimed}
use Rattle.transaction_table.proofs.Apart.{removed_cases}
use Rattle.transaction_table.proofs.NumberMaps.{equal_of}
use Rattle.transaction_table.proofs.Once.{same_key, get_put}

key_apart : (q k : ℕ) → (q ≡ k → ⊥) → (b : Bool) → eq_by_cmp nat_cmp q k ≡ b → eq_by_cmp nat_cmp q k ≡ false
key_apart q k n true t = absurd (n (nat_cmp-IsAntisymmetric q k (equal_of (nat_cmp q k) t)))
key_apart q k n false t = t

differ : (q k : ℕ) → q ≡ k → eq_by_cmp nat_cmp q k ≡ false → ⊥
differ q k s t = let u : eq_by_cmp nat_cmp q k ≡ true = subst (λ z. eq_by_cmp nat_cmp z k ≡ true) (sym s) (same_key k) in cc

module _ {X : Type 0} (m : FinMap nat_cmp X) where
  -- what there is at a key after a value is put, by whether it is the key
  pub put_split : (k q : ℕ) (x y : X) (P : Type 0) → get (insert m k x) q ≡ Some y → (q ≡ k → x ≡ y → P) → ((q ≡ k → ⊥) → get m q ≡ Some y → P) → P
  put_split k q x y P e here there = by_key (eq_by_cmp nat_cmp q k) refl (sym (get-insert nat_cmp_total m k x q) ∙ e)
    where
      by_key : (b : Bool) → eq_by_cmp nat_cmp q k ≡ b → cond b (Some x) (get m q) ≡ Some y → P
      by_key true t f = let same : x ≡ y = cc in here (nat_cmp-IsAntisymmetric q k (equal_of (nat_cmp q k) t)) same
      by_key false t f = there (λ s. differ q k s t) f

  pub removed_split : (k q : ℕ) (y : X) (P : Type 0) → get (remove m k) q ≡ Some y → ((q ≡ k → ⊥) → get m q ≡ Some y → P) → P
  removed_split k q y P e there = by_key (eq_by_cmp nat_cmp q k) refl (sym (get-remove nat_cmp_total m k q) ∙ e)
    where
      by_key : (b : Bool) → eq_by_cmp nat_cmp q k ≡ b → cond b None (get m q) ≡ Some y → P
      by_key true t f = absurd (cc)
      by_key false t f = there (λ s. differ q k s t) f

  pub get_put_other : (k q : ℕ) (x : X) → (q ≡ k → ⊥) → get (insert m k x) q ≡ get m q
  get_put_other k q x n = get-insert nat_cmp_total m k x q ∙ ap (λ b. cond b (Some x) (get m q)) (key_apart q k n (eq_by_cmp nat_cmp q k) refl)

  pub get_removed_other : (k q : ℕ) → (q ≡ k → ⊥) → get (remove m k) q ≡ get m q
  get_removed_other k q n = get-remove nat_cmp_total m k q ∙ ap (λ b. cond b None (get m q)) (key_apart q k n (eq_by_cmp nat_cmp q k) refl)

  -- to take out and to put is to put
  pub put_back : (k : ℕ) (x : X) → insert (remove m k) k x ≡ insert m k x
  put_back k x = same_map nat_cmp_total nat_cmp-IsAntisymmetric _ _ (λ q. get-insert nat_cmp_total (remove m k) k x q ∙ ap (cond (eq_by_cmp nat_cmp q k) (Some x)) (get-remove nat_cmp_total m k q) ∙ shadowed q (eq_by_cmp nat_cmp q k) ∙ sym (get-insert nat_cmp_total m k x q))
    where
      shadowed : (q : ℕ) (b : Bool) → cond b (Some x) (cond b None (get m q)) ≡ cond b (Some x) (get m q)
      shadowed q true = refl
      shadowed q false = refl

  pub none_some : (i k : ℕ) (x : X) → i ≡ k → get m i ≡ None → get m k ≡ Some x → ⊥
  none_some i k x s n e = let h : get m k ≡ None = subst (λ j. get m j ≡ None) s n in cc

  pub one_there : (i k : ℕ) (x y : X) → i ≡ k → get m i ≡ Some x → get m k ≡ Some y → x ≡ y
  one_there i k x y s e f = let h : get m k ≡ Some x = subst (λ j. get m j ≡ Some x) s e in cc

all-map : (P Q : Message → Type 0) → ((m : Message) → P m → Q m) → (ms : List Message) → AllByRecursion P ms → AllByRecursion Q ms
all-map P Q f [] h = tt
all-map P Q f (m ∷ ms) h = (f m h.0, all-map P Q f ms h.1)

all-both : (P Q : Message → Type 0) (ms : List Message) → AllByRecursion P ms → AllByRecursion Q ms → AllByRecursion (λ m. P m × Q m) ms
all-both P Q [] h k = tt
all-both P Q (m ∷ ms) h k = ((h.0, k.0), all-both P Q ms h.1 k.1)

-- nothing is due of no transactions
pub timed_empty : (w : ℕ → ℕ) (f : ℕ → Option Time) → ((k : ℕ) → f k ≡ None) → AreTimed w f (record { outboxes = empty; issued = empty })
timed_empty w f n = record {
  heads = λ q u e. absurd (none u (get-empty nat_cmp q) e);
  requests = λ k r e. absurd (nothing r (get-empty nat_cmp k) e);
  only = λ k x e. absurd (untimed k x (n k) e);
  owned = λ q u e. absurd (none u (get-empty nat_cmp q) e);
}
  where
    none : {o : Option Outbox} (u : Outbox) → o ≡ None → o ≡ Some u → ⊥
    none u p q = cc

    nothing : {o : Option Request} (r : Request) → o ≡ None → o ≡ Some r → ⊥
    nothing r p q = cc

    untimed : (k : ℕ) (x : Time) → f k ≡ None → f k ≡ Some x → ⊥
    untimed k x p q = cc

module _ (w : ℕ → ℕ) (f : ℕ → Option Time) (t : Txns) (d : AreTimed w f t) where
  -- an id that no message has is to a peer
  pub timed_owner : (i p : ℕ) → ((q : ℕ) (u : Outbox) → get t.outboxes q ≡ Some u → HasNot i u) → AreTimed (λ j. cond (i == j) p (w j)) f t
  timed_owner i p n = record {
    heads = d.heads;
    requests = d.requests;
    only = d.only;
    owned = λ q u e.
        all-map (λ m. (w m.id ≡ q) × (m.id ≡ i → ⊥)) (λ m. cond (i == m.id) p (w m.id) ≡ q) (λ m h. ap (λ b. cond b p (w m.id)) (other_id i m.id (λ s. h.1 (sym s))) ∙ h.0) (messages u)
        (all-both (λ m. w m.id ≡ q) (λ m. m.id ≡ i → ⊥) (messages u) (d.owned q u e) (n q u e));
  }

  -- the outbox to a peer is taken out
  pub timed_removed : (a : AreApart t) (p : ℕ) (o : Outbox) → get t.outboxes p ≡ Some o → (g : ℕ → Option Time) → ((k : ℕ) → g k ≡ cond (o.head.id == k) None (f k))
      → AreTimed w g (record t { outboxes = remove t.outboxes p })
  timed_removed a p o there g h = record {
    heads = λ q u e. removed_split t.outboxes p q u (g u.head.id ≡ Some (u.due, Some q)) e (λ n e2. other u.head.id (λ s. n (clash q u e2 s)) ∙ d.heads q u e2);
    requests = λ k r e. ((d.requests k r e).0, other k (λ s. none_some t.issued o.head.id k r s (a.apart p o there).1.0 e) ∙ (d.requests k r e).1);
    only = λ k x e. by_id k x (o.head.id == k) refl (sym (h k) ∙ e);
    owned = λ q u e. d.owned q u (removed_cases t.outboxes p q u e);
  }
    where
      other : (k : ℕ) → (o.head.id ≡ k → ⊥) → g k ≡ f k
      other k n = h k ∙ ap (λ b. cond b None (f k)) (other_id o.head.id k n)

      clash : (q : ℕ) (u : Outbox) → get t.outboxes q ≡ Some u → o.head.id ≡ u.head.id → q ≡ p
      clash q u e s = sym (d.owned q u e).0 ∙ ap w (sym s) ∙ (d.owned p o there).0

      still : (k : ℕ) (x : Option ℕ) → (o.head.id ≡ k → ⊥) → IsThere k x t → IsThere k x (record t { outboxes = remove t.outboxes p })
      still k None n y = y
      still k (Some q) n y = (y.0, get_removed_other t.outboxes p q (λ s. n (ap (λ v. v.head.id) (one_there t.outboxes p q o y.0 (sym s) there y.1) ∙ y.2)) ∙ y.1, y.2)

      by_id : (k : ℕ) (x : Time) (b : Bool) → (o.head.id == k) ≡ b → cond b None (f k) ≡ Some x → IsThere k x.1 (record t { outboxes = remove t.outboxes p })
      by_id k x true c e = absurd (cc)
      by_id k x false c e = still k x.1 (not_same o.head.id k c) (d.only k x e)

  -- an outbox to a peer that has none is put in
  pub timed_added : (p : ℕ) (o : Outbox) → get t.outboxes p ≡ None → get t.issued o.head.id ≡ None → AllByRecursion (λ m. w m.id ≡ p) (messages o)
      → (g : ℕ → Option Time) → ((k : ℕ) → g k ≡ cond (o.head.id == k) (Some (o.due, Some p)) (f k)) → AreTimed w g (record t { outboxes = insert t.outboxes p o })
  timed_added p o none free mine g h = record {
    heads = λ q u e. put_split t.outboxes p q o u (g u.head.id ≡ Some (u.due, Some q)) e
        (λ s same. subst (λ i. g u.head.id ≡ Some (u.due, Some i)) (sym s) (subst (λ v. g v.head.id ≡ Some (v.due, Some p)) same here))
        (λ n e2. other u.head.id (λ s. n (clash q u e2 s)) ∙ d.heads q u e2);
    requests = λ k r e. ((d.requests k r e).0, other k (λ s. none_some t.issued o.head.id k r s free e) ∙ (d.requests k r e).1);
    only = λ k x e. by_id k x (o.head.id == k) refl (sym (h k) ∙ e);
    owned = λ q u e. put_split t.outboxes p q o u (AllByRecursion (λ m. w m.id ≡ q) (messages u)) e
        (λ s same. subst (λ i. AllByRecursion (λ m. w m.id ≡ i) (messages u)) (sym s) (subst (λ v. AllByRecursion (λ m. w m.id ≡ p) (messages v)) same mine))
        (λ n e2. d.owned q u e2);
  }
    where
      other : (k : ℕ) → (o.head.id ≡ k → ⊥) → g k ≡ f k
      other k n = h k ∙ ap (λ b. cond b (Some (o.due, Some p)) (f k)) (other_id o.head.id k n)

      here : g o.head.id ≡ Some (o.due, Some p)
      here = h o.head.id ∙ ap (λ b. cond b (Some (o.due, Some p)) (f o.head.id)) (one_id o.head.id)

      clash : (q : ℕ) (u : Outbox) → get t.outboxes q ≡ Some u → o.head.id ≡ u.head.id → q ≡ p
      clash q u e s = sym (d.owned q u e).0 ∙ ap w (sym s) ∙ mine.0

      still : (k : ℕ) (x : Option ℕ) → IsThere k x t → IsThere k x (record t { outboxes = insert t.outboxes p o })
      still k None y = y
      still k (Some q) y = (y.0, get_put_other t.outboxes p q o (λ s. none_some t.outboxes p q y.0 (sym s) none y.1) ∙ y.1, y.2)

      by_id : (k : ℕ) (x : Time) (b : Bool) → (o.head.id == k) ≡ b → cond b (Some (o.due, Some p)) (f k) ≡ Some x → IsThere k x.1 (record t { outboxes = insert t.outboxes p o })
      by_id k x true c e =
          let same : ◌≡◌ {A = Time} (o.due, Some p) x = cc in
          subst (λ (y : Time). IsThere k y.1 (record t { outboxes = insert t.outboxes p o })) same (o, get_put t.outboxes p o, same_id o.head.id k c)
      by_id k x false c e = still k x.1 (d.only k x e)

  -- a request outside the outboxes is taken out
  pub timed_ended : (a : AreApart t) (i : ℕ) (z : Request) → get t.issued i ≡ Some z → (g : ℕ → Option Time) → ((k : ℕ) → g k ≡ cond (i == k) None (f k))
      → AreTimed w g (record t { issued = remove t.issued i })
  timed_ended a i z there g h = record {
    heads = λ q u e. other u.head.id (λ s. none_some t.issued u.head.id i z (sym s) (a.apart q u e).1.0 there) ∙ d.heads q u e;
    requests = λ k r e. removed_split t.issued i k r ((r.message.id ≡ k) × (g k ≡ Some (r.due, None))) e (λ n e2. ((d.requests k r e2).0, other k (λ s. n (sym s)) ∙ (d.requests k r e2).1));
    only = λ k x e. by_id k x (i == k) refl (sym (h k) ∙ e);
    owned = d.owned;
  }
    where
      other : (k : ℕ) → (i ≡ k → ⊥) → g k ≡ f k
      other k n = h k ∙ ap (λ b. cond b None (f k)) (other_id i k n)

      still : (k : ℕ) (x : Option ℕ) → (i ≡ k → ⊥) → IsThere k x t → IsThere k x (record t { issued = remove t.issued i })
      still k None n y = (y.0, get_removed_other t.issued i k (λ s. n (sym s)) ∙ y.1)
      still k (Some q) n y = y

      by_id : (k : ℕ) (x : Time) (b : Bool) → (i == k) ≡ b → cond b None (f k) ≡ Some x → IsThere k x.1 (record t { issued = remove t.issued i })
      by_id k x true c e = absurd (cc)
      by_id k x false c e = still k x.1 (not_same i k c) (d.only k x e)

  -- a request is put in
  pub timed_issued : (i : ℕ) (z : Request) → z.message.id ≡ i → ((q : ℕ) (u : Outbox) → get t.outboxes q ≡ Some u → u.head.id ≡ i → ⊥)
      → (g : ℕ → Option Time) → ((k : ℕ) → g k ≡ cond (i == k) (Some (z.due, None)) (f k)) → AreTimed w g (record t { issued = insert t.issued i z })
  timed_issued i z named free g h = record {
    heads = λ q u e. other u.head.id (λ s. free q u e (sym s)) ∙ d.heads q u e;
    requests = λ k r e. put_split t.issued i k z r ((r.message.id ≡ k) × (g k ≡ Some (r.due, None))) e
        (λ s same. subst (λ v. (v.message.id ≡ k) × (g k ≡ Some (v.due, None))) same (named ∙ sym s, here k (sym s)))
        (λ n e2. ((d.requests k r e2).0, other k (λ s. n (sym s)) ∙ (d.requests k r e2).1));
    only = λ k x e. by_id k x (i == k) refl (sym (h k) ∙ e);
    owned = d.owned;
  }
    where
      other : (k : ℕ) → (i ≡ k → ⊥) → g k ≡ f k
      other k n = h k ∙ ap (λ b. cond b (Some (z.due, None)) (f k)) (other_id i k n)

      here : (k : ℕ) → i ≡ k → g k ≡ Some (z.due, None)
      here k s = h k ∙ ap (λ b. cond b (Some (z.due, None)) (f k)) (subst (λ j. (i == j) ≡ true) s (one_id i))

      still : (k : ℕ) (x : Option ℕ) → (i ≡ k → ⊥) → IsThere k x t → IsThere k x (record t { issued = insert t.issued i z })
      still k None n y = (y.0, get_put_other t.issued i k z (λ s. n (sym s)) ∙ y.1)
      still k (Some q) n y = y

      by_id : (k : ℕ) (x : Time) (b : Bool) → (i == k) ≡ b → cond b (Some (z.due, None)) (f k) ≡ Some x → IsThere k x.1 (record t { issued = insert t.issued i z })
      by_id k x true c e =
          let same : ◌≡◌ {A = Time} (z.due, None) x = cc in
          subst (λ (y : Time). IsThere k y.1 (record t { issued = insert t.issued i z })) same (z, subst (λ j. get (insert t.issued i z) j ≡ Some z) (same_id i k c) (get_put t.issued i z))
      by_id k x false c e = still k x.1 (not_same i k c) (d.only k x e)

  -- an id that no transaction has isn't due
  pub untimed : (i : ℕ) → ((q : ℕ) (u : Outbox) → get t.outboxes q ≡ Some u → u.head.id ≡ i → ⊥) → get t.issued i ≡ None → f i ≡ None
  untimed i n free = by_time (f i) refl
    where
      nowhere : (x : Option ℕ) → IsThere i x t → ⊥
      nowhere None y = none_some t.issued i i y.0 refl free y.1
      nowhere (Some q) y = n q y.0 y.1 y.2

      by_time : (o : Option Time) → f i ≡ o → f i ≡ None
      by_time None e = e
      by_time (Some x) e = absurd (nowhere x.1 (d.only i x e))
