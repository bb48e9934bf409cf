-- Lists that are gone through from the last to the first.
use Rattle.std.proofs.Common.{◌≡◌, List, [], ◌∷◌, ◌++◌, length, refl, ap, arith}

-- each item is put to the last value, the last item first
abbrev pub folded : {A B : Type 0} → (A → B → B) → List A → B → B
folded f [] b = b
folded f (x ∷ xs) b = f x (folded f xs b)

pub folded_last : {A B : Type 0} (f : A → B → B) (xs : List A) (x : A) (b : B) → folded f (xs ++ x ∷ []) b ≡ folded f xs (f x b)
folded_last f [] x b = refl
folded_last f (y ∷ xs) x b = ap (f y) (folded_last f xs x b)

pub folded_none : {A B : Type 0} (f : A → B → B) (xs : List A) (b : B) → length xs ≡ 0 → b ≡ folded f xs b
folded_none f [] b e = refl
folded_none f (x ∷ xs) b e = absurd (omega (arith, e))
