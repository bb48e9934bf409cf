-- The items of a list that a loop takes one after the other.
use Rattle.std.proofs.Common.{◌≡◌, ℕ, zero, suc, ◌<◌, ◌≤◌, List, [], ◌∷◌, length, get_or, map, refl, ap, sym, subst, arith, length-append}
use Rattle.std.specs.Prelude.{All}
use Rattle.std.specs.List.{flat_map}

-- what holds of each item holds of one of them
pub item_of : {X : Type 0} (P : X → Type 0) (xs : List X) (k : ℕ) (x : X) → All P xs → (k < length xs) × (x ≡ get_or xs k x) → P x
item_of P xs k x all at = subst P (sym at.1) (all k x at.0)

part_at : {X : Type 0} (f : X → List ℕ) (xs : List X) (k : ℕ) (d : X) → k < length xs → length (f (get_or xs k d)) ≤ length (flat_map f xs)
part_at f [] k d lt = absurd (omega arith)
part_at f (x ∷ xs) zero d lt = omega (arith, length-append (f x) (flat_map f xs))
part_at f (x ∷ xs) (suc k) d lt = let more : length (f (get_or xs k d)) ≤ length (flat_map f xs) = part_at f xs k d (omega arith) in omega (arith, more, length-append (f x) (flat_map f xs))

-- what an item spells is no longer than what all do
pub part_of : {X : Type 0} (f : X → List ℕ) (xs : List X) (k n : ℕ) (x : X) → length (flat_map f xs) < n → (k < length xs) × (x ≡ get_or xs k x) → length (f x) < n
part_of f xs k n x lt at =
    let le : length (f (get_or xs k x)) ≤ length (flat_map f xs) = part_at f xs k x at.0 in
    omega (arith, le, ap (λ y. length (f y)) at.1)

pub mapped : {X : Type 0} (xs : List X) → map (λ x. x) xs ≡ xs
mapped [] = refl
mapped (x ∷ xs) = ap (λ rest. x ∷ rest) (mapped xs)
