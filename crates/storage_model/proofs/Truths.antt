-- Truth values and tests over lists.
use Rattle.std.proofs.Common.{◌≡◌, ◌≢◌, ℕ, Bool, true, false, not, cond, ◌||◌, List, [], ◌∷◌, find, Some, is_some, unwrap_or, refl, sym, ap, subst, true≢false, nat_cmp, arith}
use Rattle.std.proofs.lemmas.Bool.{and_parts}
use Rattle.std.proofs.lemmas.Bool.Decides.{nat_tests}
use Rattle.std.specs.List.{AllByRecursion, list_any, list_all}
use Rattle.std.specs.Ordering.{eq_by_cmp}

-- neither of two holds
pub or_parts : (b c : Bool) → (b || c) ≡ false → (b ≡ false) × (c ≡ false)
or_parts true c e = (e, absurd (true≢false e))
or_parts false c e = (refl, e)

pub not_true : (b : Bool) → not b ≡ true → b ≡ false
not_true true e = absurd (true≢false (sym e))
not_true false e = refl

pub not_false : (b : Bool) → not b ≡ false → b ≡ true
not_false true e = refl
not_false false e = absurd (true≢false e)

-- a number is itself, and no other
pub key_same : (r : ℕ) → eq_by_cmp nat_cmp r r ≡ true
key_same r = grind (arith, nat_tests)

pub key_other : (q r : ℕ) → q ≢ r → eq_by_cmp nat_cmp q r ≡ false
key_other q r n = grind (arith, nat_tests)

pub some_same : {X : Type 0} (y x : X) → Some y ≡ Some x → y ≡ x
some_same y x e = ap (λ o. unwrap_or o y) e

-- what holds of each holds of the one that is found
pub found_all : {X : Type 0} (P : X → Type 0) (test : X → Bool) (xs : List X) (x : X) → AllByRecursion P xs → find test xs ≡ Some x → P x
found_all P test [] x h e = absurd (true≢false (sym (ap is_some e)))
found_all P test (y ∷ ys) x h e =
    (elim (test y) as (λ b. cond b (Some y) (find test ys) ≡ Some x → P x) [
      | true ↦ λ f. subst P (some_same y x f) h.0
      | false ↦ λ f. found_all P test ys x h.1 f
    ]) e

-- no test holds, or each does
pub none_of : {X : Type 0} (test : X → Bool) (xs : List X) → list_any test xs ≡ false → AllByRecursion (λ x. test x ≡ false) xs
none_of test [] e = tt
none_of test (x ∷ xs) e = let parts = or_parts (test x) _ e in (parts.0, none_of test xs parts.1)

pub each_of : {X : Type 0} (test : X → Bool) (xs : List X) → list_all test xs ≡ true → AllByRecursion (λ x. test x ≡ true) xs
each_of test [] e = tt
each_of test (x ∷ xs) e = let parts = and_parts (test x) _ e in (parts.0, each_of test xs parts.1)

-- what is found passes the test
pub found_test : {X : Type 0} (test : X → Bool) (xs : List X) (x : X) → find test xs ≡ Some x → test x ≡ true
found_test test [] x e = absurd (true≢false (sym (ap is_some e)))
found_test test (y ∷ ys) x e =
    (elim (test y) as (λ b. test y ≡ b → cond b (Some y) (find test ys) ≡ Some x → test x ≡ true) [
      | true ↦ λ p f. subst (λ z. test z ≡ true) (ap (λ o. unwrap_or o y) f) p
      | false ↦ λ p f. found_test test ys x f
    ]) refl e
