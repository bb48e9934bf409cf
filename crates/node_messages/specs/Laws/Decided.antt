-- What is decided of numbers and lists, and of several facts at once.
use Rattle.std.proofs.Common.{◌≡◌, ℕ, zero, suc, ◌<◌, ◌^◌, Bool, true, false, List, [], ◌∷◌, length, All, refl, lit<}
use Rattle.std.proofs.Math.Decide.{map_dec, dec_lt}
use Rattle.std.proofs.lemmas.List.Elements.{All-nil, All-cons, All-head, All-tail}
use Rattle.wire_core.specs.Spelling.{AreBytes}

pub both : {A B : Type 0} → Dec A → Dec B → Dec (A × B)
both (yes a) (yes b) = yes (a, b)
both (yes a) (no never) = no (λ p. never p.1)
both (no never) b = no (λ p. never p.0)

-- a fact of each element
pub each : {X : Type 0} (P : X → Type 0) → ((x : X) → Dec (P x)) → (xs : List X) → Dec (All P xs)
each P decided [] = yes (All-nil P)
each P decided (x ∷ xs) =
    map_dec (λ p. All-cons P x xs p.0 p.1) (λ a. (All-head P x xs a, All-tail P x xs a))
    (both (decided x) (each P decided xs))

-- that bytes are fewer than a number
pub fewer : (bytes : List ℕ) (n : ℕ) → Dec (length bytes < n)
fewer bytes n = dec_lt (length bytes) n

pub is_false : (b : Bool) → Dec (b ≡ false)
is_false true = no (λ e. cc)
is_false false = yes refl

AreBytes-cons : (b : ℕ) (bytes : List ℕ) → b < 2 ^ 8 → AreBytes bytes → AreBytes (b ∷ bytes)
AreBytes-cons b bytes lt fit zero = lt
AreBytes-cons b bytes lt fit (suc i) = fit i

pub are_bytes : (bytes : List ℕ) → Dec (AreBytes bytes)
are_bytes [] = yes (λ i. lit< tt)
are_bytes (b ∷ bytes) =
    map_dec (λ p. AreBytes-cons b bytes p.0 p.1) (λ fit. (fit zero, λ i. fit (suc i)))
    (both (dec_lt b (2 ^ 8)) (are_bytes bytes))
