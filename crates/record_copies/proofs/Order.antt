-- Things of which each comes before the next one.
use lib.Dec.{T}
use Rattle.std.proofs.Common.{◌≡◌, ℕ, ◌<◌, Bool, true, false, List, [], ◌∷◌, refl, sym, subst, arith}
use Rattle.std.specs.Prelude.{map, nat_lt, ◌&&◌}
use Rattle.std.specs.List.{AllByRecursion}
use Rattle.std.specs.List.Sorted.{IsStrictlySortedBy}
use Rattle.std.specs.declared.cmp.Ordering.{Ordering}
use Rattle.std.specs.declared.cmp.Ordering.TheVariants.{Less, Equal, Greater}
use Rattle.std.specs.Ordering.{nat_cmp, is_lt, MatchOrdering}
use Rattle.std.specs.Cmp.{IsTotalOrder, nat_cmp_total, nat_cmp_is, ranks}
use Rattle.std.specs.Cmp.Lexicographic.{slice_cmp, nat_list_cmp_total}
use Rattle.std.proofs.lemmas.Bool.Decides.{nat_tests}
use Rattle.peer_note.specs.declared.kind_note.SlotNote.{SlotNote}
use Rattle.peer_note.specs.declared.kind_note.KindNote.{KindNote}
use Rattle.node_model.specs.Copies.{rise, rise_from}

pub first_true : (a b : Bool) → (a && b) ≡ true → a ≡ true
first_true true b e = refl
first_true false b e = e

pub second_true : (a b : Bool) → (a && b) ≡ true → b ≡ true
second_true true b e = e
second_true false b e = absurd (subst T (sym e) tt)

module _ {X L : Type 0} (R : L → L → Ordering) (o : IsTotalOrder R) (key : X → L) (before : X → X → Bool) (is : (x y : X) → before x y ≡ true → R (key x) (key y) ≡ Less) where
  below_more : (x y : L) (ks : List L) → R x y ≡ Less → AllByRecursion (λ k. R y k ≡ Less) ks → AllByRecursion (λ k. R x k ≡ Less) ks
  below_more x y [] p h = tt
  below_more x y (k ∷ ks) p h = (o.trans x y k p h.0, below_more x y ks p h.1)

  sorted_from : (x : X) (xs : List X) → rise_from before x xs ≡ true → AllByRecursion (λ k. R (key x) k ≡ Less) (map key xs) × IsStrictlySortedBy R (map key xs)
  unfolding IsStrictlySortedBy
  sorted_from x [] e = (tt, tt)
  sorted_from x (y ∷ ys) e =
      let l = is x y (first_true _ _ e) in
      let rest = sorted_from y ys (second_true _ _ e) in
      ((l, below_more (key x) (key y) (map key ys) l rest.0), rest)

  -- what rises is sorted
  sorted : (xs : List X) → rise before xs ≡ true → IsStrictlySortedBy R (map key xs)
  unfolding IsStrictlySortedBy
  sorted [] e = tt
  sorted (x ∷ xs) e = sorted_from x xs e

less : (r : Ordering) → is_lt r ≡ true → r ≡ Less
less Less e = refl
less Equal e = absurd (subst T (sym e) tt)
less Greater e = absurd (subst T (sym e) tt)

below : (x y : ℕ) → nat_lt x y ≡ true → nat_cmp x y ≡ Less
below x y e = let l : x < y = grind (arith, nat_tests, e) in sym (nat_cmp_is x y Less l)

pub kinds_sorted : (ns : List KindNote) → rise (λ (a b : KindNote). nat_lt a.kind b.kind) ns ≡ true → IsStrictlySortedBy nat_cmp (map (λ n. n.kind) ns)
kinds_sorted ns e = sorted nat_cmp nat_cmp_total (λ (n : KindNote). n.kind) (λ (a b : KindNote). nat_lt a.kind b.kind) (λ x y e. below x.kind y.kind e) ns e

pub keys_sorted : (ns : List SlotNote) → rise (λ (a b : SlotNote). is_lt (slice_cmp nat_cmp a.key b.key)) ns ≡ true → IsStrictlySortedBy (slice_cmp nat_cmp) (map (λ n. n.key) ns)
keys_sorted ns e = sorted (slice_cmp nat_cmp) nat_list_cmp_total (λ (n : SlotNote). n.key) (λ (a b : SlotNote). is_lt (slice_cmp nat_cmp a.key b.key)) (λ x y e. less _ e) ns e

-- an order of numbers
pub is_below : (x y : ℕ) → nat_cmp x y ≡ Less → x < y
is_below x y e = subst (λ r. MatchOrdering r (x < y) (x ≡ y) (y < x)) e (ranks x y)
