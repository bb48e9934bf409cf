-- Outboxes whose head ends.
use Rattle.std.proofs.Common.{◌≡◌, ℕ, List, [], ap, sym, subst, ◌∙◌}
use Rattle.std.specs.Prelude.{Option, Some, None, Result, Ok, Err, OnErr, MatchOption, unwrap_or}
use Rattle.std.specs.Option.{option_map}
use Rattle.std.specs.Ordering.{nat_cmp}
use Rattle.std.specs.Map.{lookup, set_value}
use Rattle.std.specs.FinMap.{FinMap, get, insert, remove}
use Rattle.transaction_table.specs.declared.outbox.Message.{Message}
use Rattle.transaction_table.specs.declared.outbox.Outbox.{Outbox}
use Rattle.transaction_table.specs.Outboxes.{IsAlone, HasLost, behind, promoted, promoted_head, next_in, next_of, put_some, replaced}
use Rattle.ordered_tables.proofs.Trees.{at}
use Rattle.transaction_table.proofs.NumberMaps.{Rising, numbered_of, found, written, same_there}

-- an outbox that is promoted where it stands
pub promoted_there : (now k : ℕ) (x w : Outbox) (es fs : List (ℕ × Outbox)) (m : FinMap nat_cmp Outbox) → Rising es → Rising fs → numbered_of es ≡ m
    → Some x ≡ lookup (at (λ k. k) nat_cmp k) es → fs ≡ set_value (at (λ k. k) nat_cmp k) es w → w ≡ unwrap_or (promoted now x) x
    → numbered_of fs ≡ put_some k m (next_in now (get m k))
promoted_there now k x w es fs m r s v t e g =
    by_next (promoted now x) g ∙ sym (ap (λ o. put_some k m (next_in now o)) (found k (Some x) es m r v t))
  where
    by_next : (o : Option Outbox) → w ≡ unwrap_or o x → numbered_of fs ≡ put_some k m o
    by_next None g = same_there k x w es fs m r s v t e g
    by_next (Some y) g = written k x w es fs m r s v t e ∙ ap (insert m k) g

-- an outbox whose last message is taken out where it stands
pub lost_there : (k : ℕ) (x w : Outbox) (es fs : List (ℕ × Outbox)) (m : FinMap nat_cmp Outbox) → Rising es → Rising fs → numbered_of es ≡ m
    → Some x ≡ lookup (at (λ k. k) nat_cmp k) es → fs ≡ set_value (at (λ k. k) nat_cmp k) es w
    → (last : Option Message) → MatchOption last ((x.waiting ≡ []) × (w ≡ x)) (λ l. x ≡ behind l w)
    → MatchOption last (IsAlone (get m k) × (numbered_of fs ≡ m)) (λ l. HasLost l k m (numbered_of fs))
lost_there k x w es fs m r s v t e None h =
    (subst IsAlone (sym (found k (Some x) es m r v t)) h.0, same_there k x w es fs m r s v t e h.1)
lost_there k x w es fs m r s v t e (Some l) h = (w, found k (Some x) es m r v t ∙ ap Some h, written k x w es fs m r s v t e)

-- a head that ends where another message waits
pub ended_before : (now k : ℕ) (m n : FinMap nat_cmp Outbox) (there : Option Outbox) (h : Message) → Some h ≡ promoted_head now there → n ≡ put_some k m (next_in now there)
    → (Some h ≡ option_map (λ o. o.head) there) × (n ≡ next_of now k m there)
ended_before now k m n None h p e = absurd (cc)
ended_before now k m n (Some o) h p e = by_next (promoted now o) p e
  where
    by_next : (next : Option Outbox) → Some h ≡ option_map (λ _. o.head) next → n ≡ put_some k m next → (Some h ≡ Some o.head) × (n ≡ replaced k m next)
    by_next None p e = absurd (cc)
    by_next (Some y) p e = (p, e)

-- a head that ends where no other message waits
pub ended_last : (now k : ℕ) (m n l : FinMap nat_cmp Outbox) (there : Option Outbox) → there ≡ get m k → None ≡ promoted_head now there → n ≡ put_some k m (next_in now there)
    → l ≡ remove n k → (get n k ≡ there) × (l ≡ next_of now k m there)
ended_last now k m n l None t p e f = (ap (λ m. get m k) e ∙ sym t, f ∙ ap (λ m. remove m k) e)
ended_last now k m n l (Some o) t p e f = by_next (promoted now o) p e
  where
    by_next : (next : Option Outbox) → None ≡ option_map (λ _. o.head) next → n ≡ put_some k m next → (get n k ≡ Some o) × (l ≡ replaced k m next)
    by_next None p e = (ap (λ m. get m k) e ∙ sym t, f ∙ ap (λ m. remove m k) e)
    by_next (Some y) p e = absurd (cc)

-- what holds on a refusal
pub on_refusal : {A E P Q : Type 0} (r : Result A E) → (P → Q) → OnErr r P → OnErr r Q
on_refusal (Ok x) f h = tt
on_refusal (Err y) f h = f h
