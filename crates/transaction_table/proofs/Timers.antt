-- The first of timers.
use Rattle.std.proofs.Common.{◌≡◌, ℕ, ◌==◌, Bool, true, false, cond, ◌&&◌, ◌⊎◌, inl, inr, List, [], ◌∷◌, ◌++◌, refl, ap, sym, subst, ◌∙◌, arith}
use Rattle.std.specs.Prelude.{Option, Some, None, map, T, slice_get}
use Rattle.std.specs.Option.{option_map}
use Rattle.std.specs.List.{AllByRecursion}
use Rattle.std.specs.Ordering.{nat_cmp, eq_by_cmp, is_eq, is_lt}
use Rattle.std.specs.declared.cmp.Ordering.{Ordering}
use Rattle.std.specs.declared.cmp.Ordering.TheVariants.{Less, Equal, Greater}
use Rattle.std.specs.FinMap.{FinMap, find, is_sorted, get, entries, entries_sorted, get-entries, nat_cmp-IsAntisymmetric}
use Rattle.std.specs.FinMap.Entries.{below_all}
use Rattle.std.proofs.lemmas.Bool.Decides.{nat_tests}
use Rattle.due_list.specs.Entries.{Entry, entry_of, StandsBefore, AreInOrder}
use Rattle.due_list.proofs.Ids.{same_id, one_id}
use Rattle.due_list.proofs.Orders.{before}
use Rattle.transaction_table.specs.declared.outbox.Outbox.{Outbox}
use Rattle.transaction_table.specs.declared.outbox.Request.{Request}
use Rattle.transaction_table.specs.declared.spot.Spot.TheVariants.{Head, Issued}
use Rattle.transaction_table.specs.declared.spot.Timer.{Timer}
use Rattle.transaction_table.specs.Outboxes.{next_of}
use Rattle.transaction_table.specs.Tables.{Txns, Outboxes, comes_before, earlier, first_from, head_timers, request_timers, timers}
use Rattle.transaction_table.specs.Timed.{Time, time_of, timer_at, IsThere, IsListed}
use Rattle.transaction_table.proofs.NumberMaps.{remove_none, equal_of}
use Rattle.transaction_table.proofs.Once.{same_key}

-- nothing ends where there is no head
pub none_ended : (now peer : ℕ) (t : Txns) → None ≡ get t.outboxes peer → t ≡ record { outboxes = next_of now peer t.outboxes (get t.outboxes peer); issued = t.issued }
none_ended now peer t e =
    ap (λ (os : Outboxes). let n : Txns = record { outboxes = os; issued = t.issued } in n)
    (remove_none peer t.outboxes e ∙ ap (next_of now peer t.outboxes) e)

flipped : (d i e j : ℕ) → before d i e j ≡ true → before e j d i ≡ false
flipped d i e j p = grind (arith, nat_tests, p)

-- a timer is another one, or comes after it
abbrev pub IsBehind : Timer → Timer → Type 0
IsBehind x y = (y ≡ x) ⊎ (comes_before x y ≡ true)

abbrev Loses : Timer → Option Timer → Type 0
Loses x None = Unit {0}
Loses x (Some y) = IsBehind x y

-- a timer is one of timers
abbrev pub IsOne : Timer → List Timer → Type 0
IsOne x [] = ⊥
IsOne x (y ∷ ys) = (y ≡ x) ⊎ IsOne x ys

alike : {X : Type 0} (b : Bool) (x : X) → cond b x x ≡ x
alike true x = refl
alike false x = refl

wins : (x : Timer) (b : Option Timer) → Loses x b → earlier b x ≡ Some x
wins x None h = refl
wins x (Some z) (inl e) = subst (λ y. cond (comes_before x y) (Some x) (Some y) ≡ Some x) (sym e) (alike (comes_before x x) (Some x))
wins x (Some z) (inr t) = ap (λ b. cond b (Some x) (Some z)) t

stays : (x y : Timer) → IsBehind x y → earlier (Some x) y ≡ Some x
stays x y (inl e) = subst (λ z. cond (comes_before z x) (Some z) (Some x) ≡ Some x) (sym e) (alike (comes_before x x) (Some x))
stays x y (inr t) = ap (λ b. cond b (Some y) (Some x)) (flipped x.due x.id y.due y.id t)

loses : (x : Timer) (b : Option Timer) (y : Timer) → Loses x b → IsBehind x y → Loses x (earlier b y)
loses x None y h k = k
loses x (Some z) y h k = elim (comes_before y z) as (λ c. Loses x (cond c (Some y) (Some z))) [ true ↦ k | false ↦ h ]

stays_first : (x : Timer) (ts : List Timer) → AllByRecursion (IsBehind x) ts → first_from (Some x) ts ≡ Some x
stays_first x [] h = refl
stays_first x (y ∷ ys) h = ap (λ b. first_from b ys) (stays x y h.0) ∙ stays_first x ys h.1

pub comes_first : (x : Timer) (b : Option Timer) (ts : List Timer) → Loses x b → AllByRecursion (IsBehind x) ts → IsOne x ts → first_from b ts ≡ Some x
comes_first x b [] l h o = absurd o
comes_first x b (y ∷ ys) l h (inl e) =
    ap (λ z. first_from (earlier b z) ys) e ∙ ap (λ c. first_from c ys) (wins x b l) ∙ stays_first x ys h.1
comes_first x b (y ∷ ys) l h (inr o) = comes_first x (earlier b y) ys (loses x b y l h.0) h.1 o

all_of_both : (P : Timer → Type 0) (xs ys : List Timer) → AllByRecursion P xs → AllByRecursion P ys → AllByRecursion P (xs ++ ys)
all_of_both P [] ys h k = k
all_of_both P (x ∷ xs) ys h k = (h.0, all_of_both P xs ys h.1 k)

one_before : (x : Timer) (xs ys : List Timer) → IsOne x xs → IsOne x (xs ++ ys)
one_before x [] ys o = absurd o
one_before x (y ∷ xs) ys (inl e) = inl e
one_before x (y ∷ xs) ys (inr o) = inr (one_before x xs ys o)

one_behind : (x : Timer) (xs ys : List Timer) → IsOne x ys → IsOne x (xs ++ ys)
one_behind x [] ys o = o
one_behind x (y ∷ xs) ys o = inr (one_behind x xs ys o)

split : (a b : Bool) → T (a && b) → T a × T b
split true b h = (tt, h)
split false b h = absurd h

less_differs : (r : Ordering) → T (is_lt r) → is_eq r ≡ false
less_differs Less h = refl
less_differs Equal h = absurd h
less_differs Greater h = absurd h

module _ {X : Type 0} where
  below_none : (k : ℕ) (es : List (ℕ × X)) → T (below_all nat_cmp k es) → find nat_cmp k es ≡ None
  below_none k [] h = refl
  below_none k (e ∷ es) h =
      let s = split _ _ h in ap (λ b. cond b (Some e.1) (find nat_cmp k es)) (less_differs (nat_cmp k e.0) s.0) ∙ below_none k es s.1

  skipped : (k j : ℕ) (v x : X) (es : List (ℕ × X)) → find nat_cmp k es ≡ Some v → T (below_all nat_cmp j es) → (b : Bool) → eq_by_cmp nat_cmp k j ≡ b → cond b (Some x) (find nat_cmp k es) ≡ Some v
  skipped k j v x es g h true t =
      let same : k ≡ j = nat_cmp-IsAntisymmetric k j (equal_of (nat_cmp k j) t) in
      let none : find nat_cmp k es ≡ None = subst (λ i. find nat_cmp i es ≡ None) (sym same) (below_none j es h) in
      absurd (cc)
  skipped k j v x es g h false t = g

  all_found : (h : ℕ × X → Timer) (P : Timer → Type 0) (es : List (ℕ × X)) → T (is_sorted nat_cmp es) → ((k : ℕ) (v : X) → find nat_cmp k es ≡ Some v → P (h (k, v))) → AllByRecursion P (map h es)
  all_found h P [] s f = tt
  all_found h P (e ∷ es) s f =
      let both = split _ _ s in
      (f e.0 e.1 (ap (λ b. cond b (Some e.1) (find nat_cmp e.0 es)) (same_key e.0)), all_found h P es both.1 (λ k v g. f k v (skipped k e.0 v e.1 es g both.0 (eq_by_cmp nat_cmp k e.0) refl)))

  one_found : (h : ℕ × X → Timer) (es : List (ℕ × X)) (k : ℕ) (v : X) → find nat_cmp k es ≡ Some v → IsOne (h (k, v)) (map h es)
  one_found h [] k v f = absurd (cc)
  one_found h (e ∷ es) k v f =
      elim (eq_by_cmp nat_cmp k e.0) as (λ b. eq_by_cmp nat_cmp k e.0 ≡ b → cond b (Some e.1) (find nat_cmp k es) ≡ Some v → IsOne (h (k, v)) (h e ∷ map h es)) [
        | true ↦ λ t g.
            let p : e.0 ≡ k = sym (nat_cmp-IsAntisymmetric k e.0 (equal_of (nat_cmp k e.0) t)) in
            let q : e.1 ≡ v = cc in
            inl (subst (λ j. h e ≡ h (j, v)) p (subst (λ z. h e ≡ h (e.0, z)) q refl))
        | false ↦ λ t g. inr (one_found h es k v g)
      ] refl f

  pub all_in : (h : ℕ × X → Timer) (P : Timer → Type 0) (m : FinMap nat_cmp X) → ((k : ℕ) (v : X) → get m k ≡ Some v → P (h (k, v))) → AllByRecursion P (map h (entries m))
  all_in h P m f = all_found h P (entries m) (entries_sorted m) (λ k v g. f k v (get-entries m k ∙ g))

  pub one_in : (h : ℕ × X → Timer) (m : FinMap nat_cmp X) (k : ℕ) (v : X) → get m k ≡ Some v → IsOne (h (k, v)) (map h (entries m))
  one_in h m k v g = one_found h (entries m) k v (sym (get-entries m k) ∙ g)

abbrev head_timer : ℕ × Outbox → Timer
head_timer e = record { due = e.1.due; id = e.1.head.id; spot = Head e.0 }

abbrev request_timer : ℕ × Request → Timer
request_timer e = record { due = e.1.due; id = e.1.message.id; spot = Issued e.1.message.id }

abbrev pub moment : Entry → Time
moment e = (e.due, e.owner)

abbrev pub triple : Entry → ℕ × ℕ × Option ℕ
triple e = (e.due, e.id, e.owner)

abbrev pub entry_timer : Entry → Timer
entry_timer e = timer_at (triple e)

one_time : (x y : Time) → ◌≡◌ {A = Option Time} (Some x) (Some y) → x ≡ y
one_time x y e = ap (λ (o : Option Time). elim o [ None ↦ x | Some z ↦ z ]) e

one_due : (d e : ℕ) (v w : Option ℕ) → ◌≡◌ {A = Option Time} (Some (d, v)) (Some (e, w)) → d ≡ e
one_due d e v w p = ap (λ (o : Option Time). elim o [ None ↦ d | Some z ↦ z.0 ]) p

-- what is due later than the first entry
behind_first : (e : Entry) (es : List Entry) → AllByRecursion (StandsBefore e) es → (k d : ℕ) (w : Option ℕ) → option_map moment (entry_of k es) ≡ Some (d, w) → comes_before (entry_timer e) (timer_at (d, k, w)) ≡ true
behind_first e [] h k d w f = absurd (cc)
behind_first e (x ∷ es) h k d w f =
    elim (x.id == k) as (λ b. (x.id == k) ≡ b → option_map moment (cond b (Some x) (entry_of k es)) ≡ Some (d, w) → comes_before (entry_timer e) (timer_at (d, k, w)) ≡ true) [
      | true ↦ λ t g.
          let at : ◌≡◌ {A = Time} (moment x) (d, w) = one_time (moment x) (d, w) g in
          subst (λ j. before e.due e.id d j ≡ true) (same_id x.id k t) (subst (λ j. before e.due e.id j x.id ≡ true) (ap (λ (y : Time). y.0) at) h.0.0)
      | false ↦ λ t g. behind_first e es h.1 k d w g
    ] refl f

pub is_behind : (e : Entry) (es : List Entry) → AreInOrder (e ∷ es) → (k d : ℕ) (w : Option ℕ) → time_of k (e ∷ es) ≡ Some (d, w) → IsBehind (entry_timer e) (timer_at (d, k, w))
is_behind e es h k d w f =
    elim (e.id == k) as (λ b. (e.id == k) ≡ b → option_map moment (cond b (Some e) (entry_of k es)) ≡ Some (d, w) → IsBehind (entry_timer e) (timer_at (d, k, w))) [
      | true ↦ λ t g.
          let at : ◌≡◌ {A = Time} (d, w) (moment e) = sym (one_time (moment e) (d, w) g) in
          inl (subst (λ j. timer_at (d, k, w) ≡ timer_at (e.due, j, e.owner)) (sym (same_id e.id k t)) (ap (λ (y : Time). timer_at (y.0, k, y.1)) at))
      | false ↦ λ t g. inr (behind_first e es h.0 k d w g)
    ] refl f

module _ (t : Txns) where
  -- what holds of the timer of each id that is due holds of each timer
  pub all_timers : (es : List Entry) → IsListed es t → (P : Timer → Type 0) → ((k d : ℕ) (w : Option ℕ) → time_of k es ≡ Some (d, w) → P (timer_at (d, k, w))) → AllByRecursion P (timers t)
  all_timers es l P f =
      all_of_both P (head_timers (entries t.outboxes)) (request_timers (entries t.issued))
      (all_in head_timer P t.outboxes (λ q o g. f o.head.id o.due (Some q) (l.1.heads q o g)))
      (all_in request_timer P t.issued (λ k r g. let at = l.1.requests k r g in f r.message.id r.due None (subst (λ j. time_of j es ≡ Some (r.due, None)) (sym at.0) at.1)))

  pub is_one : (es : List Entry) → IsListed es t → (k d : ℕ) (w : Option ℕ) → time_of k es ≡ Some (d, w) → IsThere k w t → IsOne (timer_at (d, k, w)) (timers t)
  is_one es l k d None f (r, g) =
      let at = l.1.requests k r g in
      let p : ◌≡◌ {A = Option Time} (Some (r.due, None)) (Some (d, None)) = sym at.1 ∙ f in
      let q : r.due ≡ d = one_due r.due d None None p in
      one_behind _ (head_timers (entries t.outboxes)) (request_timers (entries t.issued))
      (subst (λ j. IsOne (timer_at (d, j, None)) (request_timers (entries t.issued))) at.0
      (subst (λ j. IsOne (timer_at (j, r.message.id, None)) (request_timers (entries t.issued))) q (one_in request_timer t.issued k r g)))
  is_one es l k d (Some q) f (o, g, s) =
      let p : ◌≡◌ {A = Option Time} (Some (o.due, Some q)) (Some (d, Some q)) = sym (l.1.heads q o g) ∙ subst (λ j. time_of j es ≡ Some (d, Some q)) (sym s) f in
      let z : o.due ≡ d = one_due o.due d (Some q) (Some q) p in
      one_before _ (head_timers (entries t.outboxes)) (request_timers (entries t.issued))
      (subst (λ j. IsOne (timer_at (d, j, Some q)) (head_timers (entries t.outboxes))) s
      (subst (λ j. IsOne (timer_at (j, o.head.id, Some q)) (head_timers (entries t.outboxes))) z (one_in head_timer t.outboxes q o g)))

  no_timers : (ts : List Timer) → AllByRecursion (λ x. ⊥) ts → None ≡ first_from None ts
  no_timers [] h = refl
  no_timers (x ∷ ts) h = absurd h.0

  -- the first entry has the first timer
  pub first_is : (es : List Entry) → AreInOrder es → IsListed es t → option_map timer_at (option_map triple (slice_get es 0)) ≡ first_from None (timers t)
  first_is [] h l = no_timers (timers t) (all_timers [] l (λ x. ⊥) (λ k d w f. nothing d w f))
    where
      nothing : (d : ℕ) (w : Option ℕ) → ◌≡◌ {A = Option Time} None (Some (d, w)) → ⊥
      nothing d w f = cc
  first_is (e ∷ es) h l =
      let here : time_of e.id (e ∷ es) ≡ Some (moment e) = ap (λ b. option_map moment (cond b (Some e) (entry_of e.id es))) (one_id e.id) in
      sym (comes_first (entry_timer e) None (timers t) tt
      (all_timers (e ∷ es) l (IsBehind (entry_timer e)) (λ k d w f. is_behind e es h k d w f))
      (is_one (e ∷ es) l e.id e.due e.owner here (l.1.only e.id (moment e) here)))
