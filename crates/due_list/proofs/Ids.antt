-- The entry of an id in entries that change.
use Rattle.std.proofs.Common.{◌≡◌, ℕ, ◌==◌, Bool, true, false, cond, List, [], ◌∷◌, refl, ap, sym, subst, ◌∙◌, arith}
use Rattle.std.specs.Prelude.{Option, Some, None}
use Rattle.std.specs.List.{AllByRecursion}
use Rattle.std.proofs.lemmas.Bool.Decides.{nat_tests}
use Rattle.due_list.specs.Entries.{Entry, comes_before, with_entry, without, entry_at, entry_of, StandsBefore, AreInOrder}
use Rattle.due_list.proofs.Orders.{all-found, none-here}

pub same_id : (a b : ℕ) → (a == b) ≡ true → a ≡ b
same_id a b e = grind (arith, nat_tests, e)

pub other_id : (a b : ℕ) → (a ≡ b → ⊥) → (a == b) ≡ false
other_id a b n = grind (arith, nat_tests, n)

pub one_id : (a : ℕ) → (a == a) ≡ true
one_id a = grind (arith, nat_tests)

pub not_same : (a b : ℕ) → (a == b) ≡ false → a ≡ b → ⊥
not_same a b n e = grind (arith, nat_tests, n, e)

not_both : (a b c : ℕ) → (a == b) ≡ false → (a == c) ≡ true → (b == c) ≡ true → ⊥
not_both a b c n p q = grind (arith, nat_tests, n, p, q)

swapped : {X : Type 0} (b c : Bool) (x y z : X) → (b ≡ true → c ≡ true → ⊥) → cond b x (cond c y z) ≡ cond c y (cond b x z)
swapped true true x y z n = absurd (n refl refl)
swapped true false x y z n = refl
swapped false true x y z n = refl
swapped false false x y z n = refl

-- the entry of an id has that id
pub id_of_entry : (k : ℕ) (es : List Entry) (e : Entry) → entry_of k es ≡ Some e → e.id ≡ k
id_of_entry k [] e f = absurd (cc)
id_of_entry k (x ∷ xs) e f =
    elim (x.id == k) as (λ b. (x.id == k) ≡ b → cond b (Some x) (entry_of k xs) ≡ Some e → e.id ≡ k) [
      | true ↦ λ t g. let same : x ≡ e = cc in sym (ap (λ y. y.id) same) ∙ same_id x.id k t
      | false ↦ λ t g. id_of_entry k xs e g
    ] refl f

-- the entry of an id once a new one is added
pub of_with : (k : ℕ) (e : Entry) (es : List Entry) → entry_of e.id es ≡ None → entry_of k (with_entry e es) ≡ cond (e.id == k) (Some e) (entry_of k es)
of_with k e [] n = refl
of_with k e (x ∷ xs) n =
    let here = none-here (x.id == e.id) x (entry_of e.id xs) n in
    elim (comes_before x e) as (λ b. entry_of k (cond b (x ∷ with_entry e xs) (e ∷ x ∷ xs)) ≡ cond (e.id == k) (Some e) (cond (x.id == k) (Some x) (entry_of k xs))) [
      | true ↦ ap (cond (x.id == k) (Some x)) (of_with k e xs here.1) ∙ swapped (x.id == k) (e.id == k) (Some x) (Some e) (entry_of k xs) (λ p q. not_both x.id e.id k here.0 p q)
      | false ↦ refl
    ]

none_behind : (x : Entry) (k : ℕ) (xs : List Entry) → AllByRecursion (StandsBefore x) xs → x.id ≡ k → entry_of k xs ≡ None
none_behind x k [] h e = refl
none_behind x k (y ∷ ys) h e =
    ap (λ b. cond b (Some y) (entry_of k ys)) (other_id y.id k (λ i. h.0.1 (e ∙ sym i))) ∙ none_behind x k ys h.1 e

-- the entry of an id once one is taken out
pub of_without : (k p : ℕ) (e : Entry) (es : List Entry) → AreInOrder es → entry_at p es ≡ Some e → entry_of k (without p es) ≡ cond (e.id == k) None (entry_of k es)
of_without k p e [] h f = absurd (cc)
of_without k p e (x ∷ xs) h f =
    elim (x.place == p) as (λ b. cond b (Some x) (entry_at p xs) ≡ Some e → entry_of k (cond b xs (x ∷ without p xs)) ≡ cond (e.id == k) None (cond (x.id == k) (Some x) (entry_of k xs))) [
      | true ↦ λ g. let same : x ≡ e = cc in subst (λ y. entry_of k xs ≡ cond (y.id == k) None (cond (x.id == k) (Some x) (entry_of k xs))) same (taken (x.id == k) refl)
      | false ↦ λ g. ap (cond (x.id == k) (Some x)) (of_without k p e xs h.1 g)
          ∙ swapped (x.id == k) (e.id == k) (Some x) None (entry_of k xs) (λ a b. (all-found (StandsBefore x) p xs e h.0 g).1 (same_id x.id k a ∙ sym (same_id e.id k b)))
    ] f
  where
    taken : (b : Bool) → (x.id == k) ≡ b → entry_of k xs ≡ cond b None (cond b (Some x) (entry_of k xs))
    taken true t = none_behind x k xs h.0 (same_id x.id k t)
    taken false t = refl
