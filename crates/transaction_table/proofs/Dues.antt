-- All that is due in a table, by its due list.
use Rattle.std.proofs.Common.{◌≡◌, ℕ, zero, suc, ◌+◌, ◌==◌, ◌<◌, ◌≤◌, Bool, true, false, cond, inl, inr, List, [], ◌∷◌, length, refl, ap, sym, subst, ◌∙◌, arith}
use Rattle.std.specs.Prelude.{Option, Some, None, map, nat_le}
use Rattle.std.specs.Option.{option_map}
use Rattle.std.specs.List.{AllByRecursion}
use Rattle.std.specs.FinMap.{entries, len, len-entries}
use Rattle.std.proofs.lemmas.List.{length-append, length-map}
use Rattle.due_list.specs.Entries.{Entry, due_until, entry_of, StandsBefore, AreInOrder}
use Rattle.due_list.proofs.Ids.{one_id, other_id, not_same}
use Rattle.transaction_table.specs.declared.outbox.Outbox.{Outbox}
use Rattle.transaction_table.specs.declared.outbox.Request.{Request}
use Rattle.transaction_table.specs.declared.spot.Spot.{Spot}
use Rattle.transaction_table.specs.declared.spot.Spot.TheVariants.{Head, Issued}
use Rattle.transaction_table.specs.declared.spot.Timer.{Timer}
use Rattle.transaction_table.specs.Tables.{Txns, first_from, timers, head_timers, request_timers, others, due_in, due_spots}
use Rattle.transaction_table.specs.Timed.{Time, time_of, timer_at, IsListed}
use Rattle.transaction_table.proofs.Timers.{IsBehind, IsOne, moment, triple, entry_timer, comes_first, is_behind, all_timers, is_one}

-- entries say when a timer is due
abbrev IsOf : List Entry → Timer → Type 0
IsOf es x = (w : Option ℕ) × (time_of x.id es ≡ Some (x.due, w)) × (x ≡ timer_at (x.due, x.id, w))

-- where it stands what is due under an id
abbrev pub spot_at : ℕ × ℕ × Option ℕ → Spot
spot_at x = (timer_at x).spot

fewer : (id : ℕ) (ts : List Timer) → length (others id ts) ≤ length ts
fewer id [] = omega arith
fewer id (x ∷ xs) =
    let rest = fewer id xs in
    elim (x.id == id) as (λ b. length (cond b (others id xs) (x ∷ others id xs)) ≤ suc (length xs)) [ true ↦ omega (arith, rest) | false ↦ omega (arith, rest) ]

-- without one of them there are fewer
less : (x : Timer) (ts : List Timer) → IsOne x ts → length (others x.id ts) < length ts
less x [] o = absurd o
less x (y ∷ ys) (inl e) =
    let rest = fewer x.id ys in
    let same = ap (λ b. length (cond b (others x.id ys) (y ∷ others x.id ys))) (ap (λ (z : Timer). z.id == x.id) e ∙ one_id x.id) in
    omega (arith, same, rest)
less x (y ∷ ys) (inr o) =
    let rest = less x ys o in
    elim (y.id == x.id) as (λ b. length (cond b (others x.id ys) (y ∷ others x.id ys)) < suc (length ys)) [ true ↦ omega (arith, rest) | false ↦ omega (arith, rest) ]

-- one of them that has another id
one_other : (x : Timer) (id : ℕ) (ts : List Timer) → (x.id ≡ id → ⊥) → IsOne x ts → IsOne x (others id ts)
one_other x id [] n o = o
one_other x id (y ∷ ys) n (inl e) =
    subst (λ b. IsOne x (cond b (others id ys) (y ∷ others id ys))) (sym (other_id y.id id (λ i. n (ap (λ (z : Timer). z.id) (sym e) ∙ i)))) (inl e)
one_other x id (y ∷ ys) n (inr o) =
    let rest = one_other x id ys n o in
    elim (y.id == id) as (λ b. IsOne x (cond b (others id ys) (y ∷ others id ys))) [ true ↦ rest | false ↦ inr rest ]

-- entries without the first say when the timers with other ids are due
of_others : (e : Entry) (es : List Entry) (ts : List Timer) → AllByRecursion (IsOf (e ∷ es)) ts → AllByRecursion (IsOf es) (others e.id ts)
of_others e es [] h = tt
of_others e es (x ∷ xs) h =
    let rest = of_others e es xs h.1 in
    elim (x.id == e.id) as (λ b. (x.id == e.id) ≡ b → AllByRecursion (IsOf es) (cond b (others e.id xs) (x ∷ others e.id xs))) [
      | true ↦ λ t. rest
      | false ↦ λ t.
          let other : (e.id == x.id) ≡ false = other_id e.id x.id (λ i. not_same x.id e.id t (sym i)) in
          ((h.0.0, ap (λ b. option_map moment (cond b (Some e) (entry_of x.id es))) (sym other) ∙ h.0.1, h.0.2), rest)
    ] refl

all_other : (e : Entry) (fs : List Entry) (ts : List Timer) → AllByRecursion (StandsBefore e) fs → AllByRecursion (λ f. IsOne (entry_timer f) ts) fs → AllByRecursion (λ f. IsOne (entry_timer f) (others e.id ts)) fs
all_other e [] ts s h = tt
all_other e (f ∷ fs) ts s h = (one_other (entry_timer f) e.id ts (λ i. s.0.1 (sym i)) h.0, all_other e fs ts s.1 h.1)

all_behind : (e : Entry) (es : List Entry) (ts : List Timer) → AreInOrder (e ∷ es) → AllByRecursion (IsOf (e ∷ es)) ts → AllByRecursion (IsBehind (entry_timer e)) ts
all_behind e es [] a h = tt
all_behind e es (x ∷ xs) a h =
    (subst (IsBehind (entry_timer e)) (sym h.0.2) (is_behind e es a x.id x.due h.0.0 h.0.1), all_behind e es xs a h.1)

none_due : (n now : ℕ) → ◌≡◌ {A = List Spot} [] (due_in n now [])
none_due zero now = refl
none_due (suc n) now = refl

-- the entries that are due are the timers that are due
dues_in : (n now : ℕ) (es : List Entry) (ts : List Timer) → length ts ≤ n → AreInOrder es → AllByRecursion (IsOf es) ts → AllByRecursion (λ e. IsOne (entry_timer e) ts) es
    → map spot_at (map triple (due_until now es)) ≡ due_in n now ts
dues_in n now [] [] l a h o = none_due n now
dues_in n now [] (x ∷ ts) l a h o = let f : ◌≡◌ {A = Option Time} None (Some (x.due, h.0.0)) = h.0.1 in absurd (cc)
dues_in zero now (e ∷ es) ts l a h o = let some = less (entry_timer e) ts o.0 in absurd (omega (arith, some, l))
dues_in (suc n) now (e ∷ es) ts l a h o =
    let first : first_from None ts ≡ Some (entry_timer e) = comes_first (entry_timer e) None ts tt (all_behind e es ts a h) o.0 in
    let some = less (entry_timer e) ts o.0 in
    let rest = dues_in n now es (others e.id ts) (omega (arith, some, l)) a.1 (of_others e es ts h) (all_other e es ts a.0 o.1) in
    by_time (nat_le e.due now) rest
    ∙ ap (λ (x : Option Timer). elim x [ None ↦ [] | Some y ↦ cond (nat_le y.due now) (y.spot ∷ due_in n now (others y.id ts)) [] ]) (sym first)
  where
    by_time : (b : Bool) → map spot_at (map triple (due_until now es)) ≡ due_in n now (others e.id ts)
        → map spot_at (map triple (cond b (e ∷ due_until now es) [])) ≡ cond b (spot_at (triple e) ∷ due_in n now (others e.id ts)) []
    by_time true r = ap (λ ss. spot_at (triple e) ∷ ss) r
    by_time false r = refl

later : (e : Entry) (es fs : List Entry) → AllByRecursion (StandsBefore e) fs → AllByRecursion (λ f. time_of f.id es ≡ Some (moment f)) fs → AllByRecursion (λ f. time_of f.id (e ∷ es) ≡ Some (moment f)) fs
later e es [] s h = tt
later e es (f ∷ fs) s h =
    (ap (λ b. option_map moment (cond b (Some e) (entry_of f.id es))) (other_id e.id f.id s.0.1) ∙ h.0, later e es fs s.1 h.1)

-- each entry is found under its id
each_found : (es : List Entry) → AreInOrder es → AllByRecursion (λ e. time_of e.id es ≡ Some (moment e)) es
each_found [] a = tt
each_found (e ∷ es) a =
    (ap (λ b. option_map moment (cond b (Some e) (entry_of e.id es))) (one_id e.id), later e es es a.0 (each_found es a.1))

-- what is due by a table's due list
pub dues_are : (t : Txns) (es : List Entry) (now : ℕ) → AreInOrder es → IsListed es t → map spot_at (map triple (due_until now es)) ≡ due_spots now t
unfolding due_spots
dues_are t es now a l =
    dues_in (length (timers t)) now es (timers t) (omega arith) a
    (all_timers t es l (IsOf es) (λ k d w f. (w, f, refl)))
    (each es (each_found es a))
  where
    each : (fs : List Entry) → AllByRecursion (λ e. time_of e.id es ≡ Some (moment e)) fs → AllByRecursion (λ e. IsOne (entry_timer e) (timers t)) fs
    each [] f = tt
    each (e ∷ fs) f = (is_one t es l e.id e.due e.owner f.0 (l.1.only e.id (moment e) f.0), each fs f.1)

few_in : (n now : ℕ) (ts : List Timer) → length (due_in n now ts) ≤ n
few_in zero now ts = omega arith
few_in (suc n) now ts = by_first (λ us. few_in n now us) (first_from None ts)
  where
    by_time : (b : Bool) (x : Timer) → length (due_in n now (others x.id ts)) ≤ n → length (cond b (x.spot ∷ due_in n now (others x.id ts)) []) ≤ suc n
    by_time true x rest = omega (arith, rest)
    by_time false x rest = omega arith

    by_first : ((us : List Timer) → length (due_in n now us) ≤ n) → (o : Option Timer)
        → length {A = Spot} (elim o [ None ↦ [] | Some x ↦ cond (nat_le x.due now) (x.spot ∷ due_in n now (others x.id ts)) [] ]) ≤ suc n
    by_first rest None = omega arith
    by_first rest (Some x) = by_time (nat_le x.due now) x (rest (others x.id ts))

-- no more are due than there are
pub due_few : (now : ℕ) (t : Txns) → length (due_spots now t) ≤ len t.outboxes + len t.issued
unfolding due_spots
due_few now t =
    let head : ℕ × Outbox → Timer = λ e. record { due = e.1.due; id = e.1.head.id; spot = Head e.0 } in
    let request : ℕ × Request → Timer = λ e. record { due = e.1.due; id = e.1.message.id; spot = Issued e.1.message.id } in
    omega (
      arith,
      few_in (length (timers t)) now (timers t),
      length-append (head_timers (entries t.outboxes)) (request_timers (entries t.issued)),
      length-map (entries t.outboxes) head,
      length-map (entries t.issued) request,
      len-entries t.outboxes,
      len-entries t.issued,
    )
