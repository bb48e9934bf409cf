-- Maps by numbers.
use Rattle.std.proofs.Common.{◌≡◌, ℕ, List, Bool, true, false, cond, refl, ap, sym, ◌∙◌}
use Rattle.std.specs.Prelude.{is_some, Option, Some, None}
use Rattle.std.specs.Ordering.{nat_cmp, eq_by_cmp, is_eq}
use Rattle.std.specs.declared.cmp.Ordering.{Ordering}
use Rattle.std.specs.declared.cmp.Ordering.TheVariants.{Less, Equal, Greater}
use Rattle.std.specs.Cmp.{nat_cmp_total}
use Rattle.std.specs.Map.{lookup, set_value}
use Rattle.std.specs.FinMap.{FinMap, nat_cmp-IsAntisymmetric, get, insert, remove, same_map, get-insert, get-remove}
use Rattle.ordered_tables.proofs.Trees.{at}
pub use Rattle.ordered_tables.proofs.NumberMaps.{Rising, numbered_of, numbered_get, numbered_insert, numbered_set, numbered_remove, numbered_len, numbered_entries}
use Rattle.transaction_table.specs.Outboxes.{changed}

pub equal_of : (r : Ordering) → is_eq r ≡ true → r ≡ Equal
equal_of Less e = absurd (cc)
equal_of Equal e = refl
equal_of Greater e = absurd (cc)

module _ {X : Type 0} where
  -- a value that is put where it is
  insert_same : (k : ℕ) (x : X) (m : FinMap nat_cmp X) → get m k ≡ Some x → insert m k x ≡ m
  insert_same k x m e = same_map nat_cmp_total nat_cmp-IsAntisymmetric _ _ (λ q. get-insert nat_cmp_total m k x q ∙ here q (eq_by_cmp nat_cmp q k) refl)
    where
      here : (q : ℕ) (b : Bool) → eq_by_cmp nat_cmp q k ≡ b → cond b (Some x) (get m q) ≡ get m q
      here q true t = let same : q ≡ k = nat_cmp-IsAntisymmetric q k (equal_of (nat_cmp q k) t) in sym (ap (get m) same ∙ e)
      here q false t = refl

  -- what there is at a key, where a tree has it
  pub found : (k : ℕ) (o : Option X) (es : List (ℕ × X)) (m : FinMap nat_cmp X) → Rising es → numbered_of es ≡ m → o ≡ lookup (at (λ k. k) nat_cmp k) es → get m k ≡ o
  found k o es m r v f = ap (λ n. get n k) (sym v) ∙ numbered_get k es r ∙ sym f

  -- a value that is written
  pub written : (k : ℕ) (x w : X) (es fs : List (ℕ × X)) (m : FinMap nat_cmp X) → Rising es → Rising fs → numbered_of es ≡ m
      → Some x ≡ lookup (at (λ k. k) nat_cmp k) es → fs ≡ set_value (at (λ k. k) nat_cmp k) es w → numbered_of fs ≡ insert m k w
  written k x w es fs m r s v f e = numbered_set k w es fs r s (ap is_some (sym f)) e ∙ ap (λ n. insert n k w) v

  pub changed_there : (f : X → X) (k : ℕ) (x w : X) (es fs : List (ℕ × X)) (m : FinMap nat_cmp X) → Rising es → Rising fs → numbered_of es ≡ m
      → Some x ≡ lookup (at (λ k. k) nat_cmp k) es → fs ≡ set_value (at (λ k. k) nat_cmp k) es w → w ≡ f x → numbered_of fs ≡ changed f k m (get m k)
  changed_there f k x w es fs m r s v t e g =
      written k x w es fs m r s v t e ∙ ap (insert m k) g ∙ ap (changed f k m) (sym (found k (Some x) es m r v t))

  pub same_there : (k : ℕ) (x w : X) (es fs : List (ℕ × X)) (m : FinMap nat_cmp X) → Rising es → Rising fs → numbered_of es ≡ m
      → Some x ≡ lookup (at (λ k. k) nat_cmp k) es → fs ≡ set_value (at (λ k. k) nat_cmp k) es w → w ≡ x → numbered_of fs ≡ m
  same_there k x w es fs m r s v t e g = written k x w es fs m r s v t e ∙ ap (insert m k) g ∙ insert_same k x m (found k (Some x) es m r v t)

  pub changed_none : (f : X → X) (k : ℕ) (es : List (ℕ × X)) (m n : FinMap nat_cmp X) → Rising es → numbered_of es ≡ m
      → None ≡ lookup (at (λ k. k) nat_cmp k) es → n ≡ numbered_of es → n ≡ changed f k m (get m k)
  changed_none f k es m n r v t e = e ∙ v ∙ ap (changed f k m) (sym (found k None es m r v t))

  -- nothing that is taken out
  pub remove_none : (k : ℕ) (m : FinMap nat_cmp X) → None ≡ get m k → m ≡ remove m k
  remove_none k m e = sym (same_map nat_cmp_total nat_cmp-IsAntisymmetric _ _ (λ q. get-remove nat_cmp_total m k q ∙ here q (eq_by_cmp nat_cmp q k) refl))
    where
      here : (q : ℕ) (b : Bool) → eq_by_cmp nat_cmp q k ≡ b → cond b None (get m q) ≡ get m q
      here q true t = let same : q ≡ k = nat_cmp-IsAntisymmetric q k (equal_of (nat_cmp q k) t) in sym (ap (get m) same ∙ sym e)
      here q false t = refl
