-- Ids among the ids of lists.
use Rattle.std.proofs.Common.{◌≡◌, ◌≢◌, ◌⊎◌, ℕ, zero, suc, ◌^◌, ◌<◌, List, [], ◌∷◌, ◌++◌, take, refl, sym, ap, ◌∙◌, subst, inl, inr, ⊎_elim, arith}
use Rattle.std.proofs.lemmas.Bool.{cases_eq}
use Rattle.std.proofs.lemmas.Bool.Decides.{nat_tests}
use Rattle.chord_tables.specs.Neighbours.{without}
use Rattle.ring_laws.specs.Members.{IsAmong, AreAmong, AreMembers}

pub member-small : (m : ℕ) (xs : List ℕ) → AreMembers xs → IsAmong m xs → m < 2 ^ 128
member-small m [] h i = absurd i
member-small m (x ∷ xs) h (inl e) = let P : ℕ → Type 0 = λ z. z < 2 ^ 128 in subst P (sym e) h.0
member-small m (x ∷ xs) h (inr i) = member-small m xs h.2 i

pub among-take : (n y : ℕ) (xs : List ℕ) → IsAmong y (take n xs) → IsAmong y xs
among-take zero y xs h = absurd h
among-take (suc n) y [] h = h
among-take (suc n) y (x ∷ xs) (inl e) = inl e
among-take (suc n) y (x ∷ xs) (inr h) = inr (among-take n y xs h)

pub among-append : (y : ℕ) (xs ys : List ℕ) → IsAmong y (xs ++ ys) → IsAmong y xs ⊎ IsAmong y ys
among-append y [] ys h = inr h
among-append y (x ∷ xs) ys (inl e) = inl (inl e)
among-append y (x ∷ xs) ys (inr h) = ⊎_elim
    (λ (a : IsAmong y xs). inl (inr a))
    (λ (a : IsAmong y ys). inr a)
    (among-append y xs ys h)

pub among-left : (y : ℕ) (xs ys : List ℕ) → IsAmong y xs → IsAmong y (xs ++ ys)
among-left y [] ys h = absurd h
among-left y (x ∷ xs) ys (inl e) = inl e
among-left y (x ∷ xs) ys (inr h) = inr (among-left y xs ys h)

pub among-right : (y : ℕ) (xs ys : List ℕ) → IsAmong y ys → IsAmong y (xs ++ ys)
among-right y [] ys h = h
among-right y (x ∷ xs) ys h = inr (among-right y xs ys h)

-- lists that are all among others
pub append-among : (xs ys zs : List ℕ) → AreAmong xs zs → AreAmong ys zs → AreAmong (xs ++ ys) zs
append-among xs ys zs f g = λ y h. ⊎_elim (f y) (g y) (among-append y xs ys h)

-- what there is without an id
module _ (p x : ℕ) (xs : List ℕ) where
  pub without-same : x ≡ p → without p (x ∷ xs) ≡ without p xs
  without-same e = grind (arith, nat_tests)

  pub without-other : x ≢ p → without p (x ∷ xs) ≡ x ∷ without p xs
  without-other n = grind (arith, nat_tests)

  -- one proof for each is enough
  pub without_cases : (P : List ℕ → Type 0) → (x ≡ p → P (without p xs))
      → (x ≢ p → P (x ∷ without p xs)) → P (without p (x ∷ xs))
  without_cases P f g = ⊎_elim
      (λ (e : x ≡ p). subst P (sym (without-same e)) (f e))
      (λ (n : x ≢ p). subst P (sym (without-other n)) (g n))
      (cases_eq x p)

pub among-without : (p y : ℕ) (xs : List ℕ) → IsAmong y (without p xs) → IsAmong y xs × (y ≢ p)
among-without p y [] h = absurd h
among-without p y (x ∷ xs) h =
    let later : IsAmong y (without p xs) → IsAmong y (x ∷ xs) × (y ≢ p) =
    λ i. let r = among-without p y xs i in (inr r.0, r.1) in
    without_cases p x xs (λ z. IsAmong y z → IsAmong y (x ∷ xs) × (y ≢ p))
    (λ _. later)
    (λ n. ⊎_elim (λ (e : y ≡ x). (inl e, λ f. n (sym e ∙ f))) later)
    h

pub without_has : (p y : ℕ) (xs : List ℕ) → IsAmong y xs → y ≢ p → IsAmong y (without p xs)
without_has p y [] h n = h
without_has p y (x ∷ xs) (inl e) n =
    without_cases p x xs (λ z. IsAmong y z) (λ f. absurd (n (e ∙ f))) (λ _. inl e)
without_has p y (x ∷ xs) (inr h) n =
    let later = without_has p y xs h n in
    without_cases p x xs (λ z. IsAmong y z) (λ _. later) (λ _. inr later)

pub members-without : (p : ℕ) (xs : List ℕ) → AreMembers xs → AreMembers (without p xs)
members-without p [] d = tt
members-without p (x ∷ xs) d =
    let later = members-without p xs d.2 in
    without_cases p x xs AreMembers (λ _. later)
    (λ _. (d.0, (λ h. d.1 (among-without p x xs h).0), later))

-- an id that isn't there leaves all
pub without-none : (p : ℕ) (xs : List ℕ) → ¬ IsAmong p xs → without p xs ≡ xs
without-none p [] out = refl
without-none p (x ∷ xs) out =
    without-other p x xs (λ e. out (inl (sym e)))
    ∙ ap (λ z. x ∷ z) (without-none p xs (λ h. out (inr h)))

pub without-head : (p : ℕ) (xs : List ℕ) → ¬ IsAmong p xs → without p (p ∷ xs) ≡ xs
without-head p xs out = without-same p p xs refl ∙ without-none p xs out

pub without_swap : (p l : ℕ) (xs : List ℕ) → without p (without l xs) ≡ without l (without p xs)
without_swap p l [] = refl
without_swap p l (x ∷ xs) =
    let later = without_swap p l xs in
    ⊎_elim
    (λ (e : x ≡ l).
    ap (without p) (without-same l x xs e)
    ∙ without_cases p x xs (λ z. without p (without l xs) ≡ without l z) (λ _. later)
    (λ _. later ∙ sym (without-same l x (without p xs) e)))
    (λ (n : x ≢ l).
    ap (without p) (without-other l x xs n)
    ∙ ⊎_elim
    (λ (f : x ≡ p). without-same p x (without l xs) f ∙ later ∙ ap (without l)
    (sym (without-same p x xs f)))
    (λ (m : x ≢ p).
    without-other p x (without l xs) m
    ∙ ap (λ z. x ∷ z) later
    ∙ sym (without-other l x (without p xs) n)
    ∙ ap (without l) (sym (without-other p x xs m)))
    (cases_eq x p))
    (cases_eq x l)
