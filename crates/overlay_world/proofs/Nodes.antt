-- Nodes by number: as they are declared, and where one of them handles an input.
use Rattle.std.proofs.Common.{◌≡◌, ℕ, zero, suc, ◌<◌, ◌≤◌, ◌^◌, List, [], ◌∷◌, length, refl, sym, ap, subst, ◌∙◌, arith}
use Rattle.std.specs.Prelude.{set}
use Rattle.std.specs.Prelude.{insert as list_insert}
use Rattle.std.proofs.Math.ListN.{get_or}
use Rattle.std.specs.Prelude.{Some, None, Result, Ok, Err, IfErr, IsErrAnd}
use Rattle.std.specs.Option.{option_map, option_map_or}
use Rattle.std.specs.Ordering.{nat_cmp}
use Rattle.std.specs.FinMap.{FinMap, get, insert, empty}
use Rattle.data_models.specs.declared.config.Config.{Config}
use Rattle.request_words.specs.declared.node.DeclaredNode.{DeclaredNode}
use Rattle.run_model.specs.Worlds.{Actor, actors_of, actor_of}
use Rattle.overlay_world.specs.Declarations.{with_declared}
use Rattle.overlay_world.specs.Nodes.{AreNumbers}
use Rattle.overlay_world.proofs.Folds.{folded}

pub actors_folded : (config : Config) (ids : List ℕ) (names : List DeclaredNode) → folded (with_declared config ids) names empty ≡ actors_of config ids names
unfolding actors_of with_declared
actors_folded config ids [] = refl
actors_folded config ids (n ∷ ns) = ap (λ m. option_map_or (insert m n.number) (actor_of config ids n n.role) m) (actors_folded config ids ns)

-- what becomes of a map, and of what it has at a key, where that is there or not
module _ {X Y : Type 0} (k : ℕ) (m : FinMap nat_cmp X) where
  pub there : (f : X → Y) (x : X) (y : Y) → Some x ≡ get m k → y ≡ f x → Some y ≡ option_map f (get m k)
  there f x y t e = ap (λ z. Some z) e ∙ ap (option_map f) t

  pub absent : (f : X → Y) → get m k ≡ None → None ≡ option_map f (get m k)
  absent f t = sym (ap (option_map f) t)

module _ {X : Type 0} (k : ℕ) (m n : FinMap nat_cmp X) where
  pub put_there : (f : X → X) (x w : X) → Some x ≡ get m k → n ≡ insert m k w → w ≡ f x → n ≡ option_map_or (λ a. insert m k (f a)) (get m k) m
  put_there f x w t e g = e ∙ ap (insert m k) g ∙ ap (λ o. option_map_or (λ a. insert m k (f a)) o m) t

  pub put_nowhere : (f : X → X) → get m k ≡ None → n ≡ m → n ≡ option_map_or (λ a. insert m k (f a)) (get m k) m
  put_nowhere f t e = e ∙ sym (ap (λ o. option_map_or (λ a. insert m k (f a)) o m) t)

-- an error that is the one handed on
pub handed_on : {A E : Type 0} (r : Result A E) (e : E) (Q : E → Type 0) → IsErrAnd r (λ x. x ≡ e) → Q e → IfErr r Q
handed_on (Ok x) e Q same h = tt
handed_on (Err x) e Q same h = subst Q (sym same) h

-- ---- rows whose keys are numbers

pub number_at : (es : List (ℕ × Actor)) (i : ℕ) (d : ℕ × Actor) → i < length es → AreNumbers es → (get_or es i d).0 < 2 ^ 32
number_at [] i d le all = absurd (omega arith)
number_at (e ∷ es) zero d le all = all.0
number_at (e ∷ es) (suc i) d le all = number_at es i d (omega arith) all.1

numbers_set : (es : List (ℕ × Actor)) (i : ℕ) (y : ℕ × Actor) → y.0 < 2 ^ 32 → AreNumbers es → AreNumbers (set es i y)
numbers_set [] i y le all = tt
numbers_set (e ∷ es) zero y le all = (le, all.1)
numbers_set (e ∷ es) (suc i) y le all = (all.0, numbers_set es i y le all.1)

-- the node of a row changes
pub numbers_written : (es : List (ℕ × Actor)) (i : ℕ) (row : ℕ × Actor) (a : Actor) → i < length es → row ≡ get_or es i row → AreNumbers es → AreNumbers (set es i (row.0, a))
numbers_written es i row a le is all =
    let small : row.0 < 2 ^ 32 = subst (λ (r : ℕ × Actor). r.0 < 2 ^ 32) (sym is) (number_at es i row le all) in
    numbers_set es i (row.0, a) small all

-- a row is put among the others
pub numbers_inserted : (es : List (ℕ × Actor)) (i : ℕ) (row : ℕ × Actor) → i ≤ length es → row.0 < 2 ^ 32 → AreNumbers es → AreNumbers (list_insert es i row)
numbers_inserted es zero row le small all = (small, all)
numbers_inserted [] (suc i) row le small all = absurd (omega arith)
numbers_inserted (e ∷ es) (suc i) row le small all = (all.0, numbers_inserted es i row (omega arith) small all.1)
