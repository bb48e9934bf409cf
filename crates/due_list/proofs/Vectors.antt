-- Timers in a vector.
use Rattle.std.proofs.Common.{◌≡◌, ℕ, zero, suc, ◌+◌, ◌-◌, ◌==◌, ◌<◌, ◌≤◌, Bool, true, false, cond, not, ◌||◌, ◌&&◌, nat_lt, List, [], ◌∷◌, ◌++◌, length, take, drop, insert, refl, ap, sym, subst, ◌∙◌, arith}
use Rattle.std.specs.Prelude.{Option, Some, None, Result, Ok, Err, is_ok, OnOk, IsTrue, position, unwrap_or, IsSome, slice_index_or}
use Rattle.std.specs.List.{AllByRecursion, remove, AllWithin, prefix_len}
use Rattle.std.proofs.lemmas.Bool.{lt-ltb}
use Rattle.std.specs.List.Sorted.{IsPartitionPoint, IsPartitionedBy}
use Rattle.std.proofs.lemmas.List.Quantifiers.{position-Some}
use Rattle.std.proofs.Math.ListN.{get_or}
use Rattle.due_list.specs.declared.timers.Timer.{Timer}
use Rattle.due_list.specs.Entries.{Entry, comes_before, with_entry, without, entry_at, entry_of, StandsBefore, AreInOrder}
use Rattle.due_list.specs.Timers.{placed, all_placed}
use Rattle.due_list.proofs.Orders.{Apart, apart_from_none, apart_without, in_order_with, in_order_without, before}

-- the place of a timer is its id
pub at_of : (n : ℕ) (ts : List Timer) → entry_at n (all_placed ts) ≡ entry_of n (all_placed ts)
at_of n [] = refl
at_of n (t ∷ ts) = ap (cond (t.id == n) (Some (placed t))) (at_of n ts)

-- a timer with a new id
pub in_order_new : (t : Timer) (ts : List Timer) → AreInOrder (all_placed ts) → entry_of t.id (all_placed ts) ≡ None → AreInOrder (with_entry (placed t) (all_placed ts))
in_order_new t ts h n = in_order_with (placed t) (all_placed ts) h (apart_from_none (placed t) (all_placed ts) n (at_of t.id ts ∙ n))

-- whether a timer comes before another
abbrev pub earlier : Timer → Timer → Bool
earlier t u = before u.due u.id t.due t.id

earlier-trans : (t x y : Timer) → before x.due x.id y.due y.id ≡ true → earlier t y ≡ true → earlier t x ≡ true
earlier-trans t x y p q = Rattle.due_list.proofs.Orders.before-trans x.due x.id y.due y.id t.due t.id p q

all-at : (x d : Timer) (ts : List Timer) (j : ℕ) → AllByRecursion (StandsBefore (placed x)) (all_placed ts) → j < length ts → IsTrue (comes_before (placed x) (placed (get_or ts j d)))
all-at x d [] j h l = absurd (omega arith)
all-at x d (t ∷ ts) zero h l = h.0.0
all-at x d (t ∷ ts) (suc j) h l = all-at x d ts j h.1 (omega arith)

pub parted : (t : Timer) (ts : List Timer) → AreInOrder (all_placed ts) → IsPartitionedBy (earlier t) ts
parted t [] h i j d le l e = absurd (omega arith)
parted t (x ∷ ts) h zero zero d le l e = e
parted t (x ∷ ts) h zero (suc j) d le l e = earlier-trans t x (get_or ts j d) (all-at x d ts j h.0 (omega arith)) e
parted t (x ∷ ts) h (suc i) zero d le l e = absurd (omega arith)
parted t (x ∷ ts) h (suc i) (suc j) d le l e = parted t ts h.1 i j d (omega arith) (omega arith) e

-- a timer that is put at the end of the earlier ones
pub ranked : (t : Timer) (ts : List Timer) (i : ℕ) → i ≤ length ts
    → ((k : ℕ) → k < i → earlier t (get_or ts k t) ≡ true) → (i < length ts → earlier t (get_or ts i t) ≡ false)
    → with_entry (placed t) (all_placed ts) ≡ all_placed (insert ts i t)
ranked t [] zero l a b = refl
ranked t [] (suc i) l a b = absurd (omega arith)
ranked t (x ∷ ts) zero l a b = ap (λ c. cond c (placed x ∷ with_entry (placed t) (all_placed ts)) (placed t ∷ placed x ∷ all_placed ts)) (b (omega arith))
ranked t (x ∷ ts) (suc i) l a b =
    ap (λ c. cond c (placed x ∷ with_entry (placed t) (all_placed ts)) (placed t ∷ placed x ∷ all_placed ts)) (a zero (omega arith))
    ∙ ap (λ es. placed x ∷ es) (ranked t ts i (omega arith) (λ k h. a (suc k) (omega arith)) (λ h. b (omega arith)))

-- the timer at the first index with an id
pub found_at : (n : ℕ) (ts : List Timer) (i : ℕ) (d : Timer) → i < length ts
    → ((get_or ts i d).id == n) ≡ true → ((k : ℕ) → k < i → ((get_or ts k d).id == n) ≡ false)
    → (entry_at n (all_placed ts) ≡ Some (placed (get_or ts i d))) × (all_placed (remove ts i) ≡ without n (all_placed ts))
found_at n [] i d l a b = absurd (omega arith)
found_at n (x ∷ ts) zero d l a b =
    (ap (λ c. cond c (Some (placed x)) (entry_at n (all_placed ts))) a, sym (ap (λ c. cond c (all_placed ts) (placed x ∷ without n (all_placed ts))) a))
found_at n (x ∷ ts) (suc i) d l a b =
    let later = found_at n ts i d (omega arith) a (λ k h. b (suc k) (omega arith)) in (
      ap (λ c. cond c (Some (placed x)) (entry_at n (all_placed ts))) (b zero (omega arith)) ∙ later.0,
      ap (λ es. placed x ∷ es) later.1 ∙ sym (ap (λ c. cond c (all_placed ts) (placed x ∷ without n (all_placed ts))) (b zero (omega arith))),
    )

-- an id that has an entry has an index
index_below : (n : ℕ) (ts : List Timer) → IsSome (entry_at n (all_placed ts)) → prefix_len (λ t. not (t.id == n)) ts < length ts
index_below n [] h = absurd (cc)
index_below n (x ∷ ts) h =
    elim (x.id == n) as (λ b. IsSome (cond b (Some (placed x)) (entry_at n (all_placed ts))) → cond (not b) (1 + prefix_len (λ t. not (t.id == n)) ts) 0 < suc (length ts)) [
      | true ↦ λ g. omega arith
      | false ↦ λ g. let later = index_below n ts g in omega arith
    ] h

index_there : (n : ℕ) (ts : List Timer) → IsSome (entry_at n (all_placed ts)) → IsSome (position (λ t. t.id == n) ts)
index_there n ts h = subst (λ b. IsSome (cond b (Some (prefix_len (λ t. not (t.id == n)) ts)) None)) (sym (lt-ltb _ _ (index_below n ts h))) refl

pub has_index : (n : ℕ) (ts : List Timer) → IsSome (entry_at n (all_placed ts)) → (m : ℕ) (ss : List Timer) → m ≡ n → ss ≡ ts → IsSome (position (λ t. t.id == m) ss)
has_index n ts h m ss e f = subst (λ k. IsSome (position (λ t. t.id == k) ss)) (sym e) (subst (λ us. IsSome (position (λ t. t.id == n) us)) (sym f) (index_there n ts h))

-- a timer that is taken out and put back, due at another time
pub in_order_back : (p due : ℕ) (t : Timer) (ts : List Timer) → AreInOrder (all_placed ts) → entry_at p (all_placed ts) ≡ Some (placed t)
    → AreInOrder (with_entry (placed (record t { due = due })) (without p (all_placed ts)))
in_order_back p due t ts h f =
    in_order_with (placed (record t { due = due })) _ (in_order_without p (all_placed ts) h) (apart_without p (all_placed ts) (placed t) h f)

-- the timer at the index of an id
pub taken_at : (n m i : ℕ) (ts ss us : List Timer) (r : Timer) → m ≡ n → ss ≡ ts → position (λ t. t.id == m) ss ≡ Some i → r ≡ slice_index_or ts i r → us ≡ remove ts i
    → (entry_at n (all_placed ts) ≡ Some (placed r)) × (all_placed us ≡ without n (all_placed ts))
taken_at n m i ts ss us r e f g h k =
    let at : position (λ t. t.id == n) ts ≡ Some i = subst (λ j. position (λ t. t.id == j) ts ≡ Some i) e (subst (λ vs. position (λ t. t.id == m) vs ≡ Some i) f g) in
    let first = position-Some (λ t. t.id == n) ts i r at in
    let both = found_at n ts i r first.0 first.1 first.2 in
    (both.0 ∙ ap (λ t. Some (placed t)) (sym h), ap all_placed k ∙ both.1)

-- what holds on success, where there was success
pub on_success : {A E P : Type 0} (r : Result A E) → is_ok r ≡ true → OnOk r P → P
on_success (Ok x) e h = h
on_success (Err y) e h = absurd (cc)
