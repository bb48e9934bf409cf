-- Finite maps: what is put, put again, and taken out.
use lib.Dec.{T}
use Rattle.std.proofs.Common.{◌≡◌, ℕ, ◌+◌, Bool, true, false, cond, refl, ap, sym, subst, ◌∙◌, arith}
use Rattle.std.specs.Prelude.{Result, Ok, Err, OnErr, Option, Some, None, is_some, unwrap_or, if◌then◌else◌}
use Rattle.std.specs.Option.{option_map_or}
use Rattle.std.specs.declared.cmp.Ordering.{Ordering}
use Rattle.std.specs.declared.cmp.Ordering.TheVariants.{Less, Equal, Greater}
use Rattle.std.specs.Ordering.{is_eq, eq_by_cmp}
use Rattle.std.specs.Cmp.{IsTotalOrder, tied_itself}
use Rattle.std.specs.FinMap.{FinMap, IsAntisymmetric, get, insert, remove, same_map, get-insert, get-remove}

pub equal : (r : Ordering) → T (is_eq r) → r ≡ Equal
equal Less p = absurd p
equal Equal p = refl
equal Greater p = absurd p

taken_of : (a b c d n : ℕ) → a + b ≡ c + d → a ≡ n → b ≡ 0 → c + d ≡ n
taken_of a b c d n p q z = omega arith

-- a look-up is decided by whether the key is the one
pub at_key : {K A : Type 0} (R : K → K → Ordering) (same : IsAntisymmetric R) (k q : K) (f g : K → A) → f k ≡ g k → (eq_by_cmp R q k ≡ false → f q ≡ g q) → f q ≡ g q
at_key R same k q f g there elsewhere =
    elim (eq_by_cmp R q k) as (λ b. eq_by_cmp R q k ≡ b → f q ≡ g q) [
      | true ↦ λ t. let is = same q k (equal _ (subst T (sym t) tt)) in ap f is ∙ there ∙ ap g (sym is)
      | false ↦ λ t. elsewhere t
    ] refl

module _ {K X : Type 0} {R : K → K → Ordering} (o : IsTotalOrder R) where
  pub get-insert_there : (m : FinMap R X) (k : K) (v : X) → get (insert m k v) k ≡ Some v
  get-insert_there m k v = get-insert o m k v k ∙ ap (λ r. cond (is_eq r) (Some v) (get m k)) (tied_itself o k)

  get-remove_there : (m : FinMap R X) (k : K) → get (remove m k) k ≡ None
  get-remove_there m k = get-remove o m k k ∙ ap (λ r. cond (is_eq r) None (get m k)) (tied_itself o k)

  pub get-insert_elsewhere : (m : FinMap R X) (k q : K) (v : X) → eq_by_cmp R q k ≡ false → get (insert m k v) q ≡ get m q
  get-insert_elsewhere m k q v e = get-insert o m k v q ∙ ap (λ b. cond b (Some v) (get m q)) e

  get-remove_elsewhere : (m : FinMap R X) (k q : K) → eq_by_cmp R q k ≡ false → get (remove m k) q ≡ get m q
  get-remove_elsewhere m k q e = get-remove o m k q ∙ ap (λ b. cond b None (get m q)) e

  module _ (same : IsAntisymmetric R) where
    pub insert-insert : (m : FinMap R X) (k : K) (v w : X) → insert (insert m k v) k w ≡ insert m k w
    insert-insert m k v w = same_map o same _ _ (λ q. at_key R same k q (get (insert (insert m k v) k w)) (get (insert m k w))
        (get-insert_there (insert m k v) k w ∙ sym (get-insert_there m k w))
        (λ e. get-insert_elsewhere (insert m k v) k q w e ∙ get-insert_elsewhere m k q v e ∙ sym (get-insert_elsewhere m k q w e)))

    pub insert-same : (m : FinMap R X) (k : K) (v : X) → get m k ≡ Some v → insert m k v ≡ m
    insert-same m k v is = same_map o same _ _ (λ q. at_key R same k q (get (insert m k v)) (get m)
        (get-insert_there m k v ∙ sym is)
        (λ e. get-insert_elsewhere m k q v e))

    pub remove-insert : (m : FinMap R X) (k : K) (v : X) → get m k ≡ None → remove (insert m k v) k ≡ m
    remove-insert m k v is = same_map o same _ _ (λ q. at_key R same k q (get (remove (insert m k v) k)) (get m)
        (get-remove_there (insert m k v) k ∙ sym is)
        (λ e. get-remove_elsewhere (insert m k v) k q e ∙ get-insert_elsewhere m k q v e))

    pub remove-absent : (m : FinMap R X) (k : K) → get m k ≡ None → remove m k ≡ m
    remove-absent m k is = same_map o same _ _ (λ q. at_key R same k q (get (remove m k)) (get m)
        (get-remove_there m k ∙ sym is)
        (λ e. get-remove_elsewhere m k q e))

    pub insert-remove : (m : FinMap R X) (k : K) (v : X) → get m k ≡ Some v → insert (remove m k) k v ≡ m
    insert-remove m k v is = same_map o same _ _ (λ q. at_key R same k q (get (insert (remove m k) k v)) (get m)
        (get-insert_there (remove m k) k v ∙ sym is)
        (λ e. get-insert_elsewhere (remove m k) k q v e ∙ get-remove_elsewhere m k q e))

    -- a sum over a map, which a value that is put adds to, without one that is taken out
    module _ (sum_of : FinMap R X → ℕ) (part : K → X → ℕ) (put : (m : FinMap R X) (k : K) (v : X) → sum_of (insert m k v) + option_map_or (part k) (get m k) 0 ≡ sum_of m + part k v) where
      pub sum-taken : (m : FinMap R X) (k : K) → sum_of (remove m k) + option_map_or (part k) (get m k) 0 ≡ sum_of m
      sum-taken m k =
          elim (get m k) as (λ o. get m k ≡ o → sum_of (remove m k) + option_map_or (part k) o 0 ≡ sum_of m) [
            | None ↦ λ is. rw (remove-absent m k is) (omega arith)
            | Some v ↦ λ is. taken_of _ _ _ _ _ (put (remove m k) k v) (ap sum_of (insert-remove m k v is)) (ap (λ o. option_map_or (part k) o 0) (get-remove_there m k))
          ] refl

-- what was found there
pub found_there : {X : Type 0} (o : Option X) (v d : X) → true ≡ is_some o → v ≡ unwrap_or o d → Some v ≡ o
found_there None v d h e = absurd (subst T h tt)
found_there (Some x) v d h e = ap Some e

pub chosen_true : {A : Type 0} (b : Bool) (x y z : A) → true ≡ b → z ≡ (if b then x else y) → z ≡ x
chosen_true true x y z h e = e
chosen_true false x y z h e = absurd (subst T h tt)

pub chosen_false : {A : Type 0} (b : Bool) (x y z : A) → false ≡ b → z ≡ (if b then x else y) → z ≡ y
chosen_false true x y z h e = absurd (subst T (sym h) tt)
chosen_false false x y z h e = e

pub unchosen : {A : Type 0} (b : Bool) (x y : A) → false ≡ b → y ≡ (if b then x else y)
unchosen true x y h = absurd (subst T (sym h) tt)
unchosen false x y h = refl

-- what holds anyway holds for an error
pub on_err_of : {A E : Type 0} (r : Result A E) {P : Type 0} → P → OnErr r P
on_err_of (Ok x) p = tt
on_err_of (Err e) p = p

-- what isn't there
pub missing_there : {X : Type 0} (o : Option X) → false ≡ is_some o → None ≡ o
missing_there None h = refl
missing_there (Some x) h = absurd (subst T (sym h) tt)
