-- Ids by a rising way, each once.
use Rattle.std.proofs.Common.{◌≡◌, ◌≢◌, ◌⊎◌, ℕ, zero, suc, ◌<◌, ◌≤◌, List, [], ◌∷◌, take, slice_get, Some, refl, sym, ap, ◌∙◌, subst, inl, inr, ⊎_elim, arith}
use Rattle.std.proofs.lemmas.Bool.{cases_eq, cases_lt}
use Rattle.std.proofs.lemmas.Bool.Decides.{nat_tests}
use Rattle.chord_tables.specs.Neighbours.{put_by, by_way}
use Rattle.ring_laws.specs.Members.{IsAmong, AreAmong, IsRising}
use Rattle.ring_laws.proofs.Lists.{among-take}

-- a way that tells the ids of a list apart
abbrev pub TellsApart : (ℕ → ℕ) → List ℕ → Type 0
TellsApart way xs = (x y : ℕ) → IsAmong x xs → IsAmong y xs → way x ≡ way y → x ≡ y

-- of a list, whose ids are all among those of another
pub tells_fewer : (way : ℕ → ℕ) (xs ys : List ℕ) → AreAmong xs ys → TellsApart way ys
    → TellsApart way xs
tells_fewer way xs ys sub tells = λ x y a b. tells x y (sub x a) (sub y b)

-- the three ways that an id goes in
module _ (way : ℕ → ℕ) (id x : ℕ) (xs : List ℕ) where
  put_by-same : id ≡ x → put_by way id (x ∷ xs) ≡ x ∷ xs
  put_by-same e = grind (arith, nat_tests)

  put_by-front : id ≢ x → way id < way x → put_by way id (x ∷ xs) ≡ id ∷ x ∷ xs
  put_by-front n l = grind (arith, nat_tests)

  put_by-back : id ≢ x → way x ≤ way id → put_by way id (x ∷ xs) ≡ x ∷ put_by way id xs
  put_by-back n l = grind (arith, nat_tests)

  -- one proof for each is enough
  pub put_by_cases : (P : List ℕ → Type 0) → (id ≡ x → P (x ∷ xs))
      → (id ≢ x → way id < way x → P (id ∷ x ∷ xs))
      → (id ≢ x → way x ≤ way id → P (x ∷ put_by way id xs)) → P (put_by way id (x ∷ xs))
  put_by_cases P f g h = ⊎_elim
      (λ (e : id ≡ x). subst P (sym (put_by-same e)) (f e))
      (λ (n : id ≢ x). ⊎_elim
      (λ (l : way id < way x). subst P (sym (put_by-front n l)) (g n l))
      (λ (l : way x ≤ way id). subst P (sym (put_by-back n l)) (h n l))
      (cases_lt (way id) (way x)))
      (cases_eq id x)

pub among-put_by : (way : ℕ → ℕ) (id y : ℕ) (xs : List ℕ) → IsAmong y (put_by way id xs)
    → (y ≡ id) ⊎ IsAmong y xs
among-put_by way id y [] (inl e) = inl e
among-put_by way id y [] (inr h) = absurd h
among-put_by way id y (x ∷ xs) h =
    let later = among-put_by way id y xs in
    put_by_cases way id x xs (λ z. IsAmong y z → (y ≡ id) ⊎ IsAmong y (x ∷ xs))
    (λ _ i. inr i)
    (λ _ _ i. i)
    (λ _ _. ⊎_elim
    (λ (e : y ≡ x). inr (inl e))
    (λ (i : IsAmong y (put_by way id xs)).
    ⊎_elim (λ (e : y ≡ id). inl e) (λ (j : IsAmong y xs). inr (inr j)) (later i)))
    h

pub put_by_has : (way : ℕ → ℕ) (id : ℕ) (xs : List ℕ) → IsAmong id (put_by way id xs)
put_by_has way id [] = inl refl
put_by_has way id (x ∷ xs) =
    let later = put_by_has way id xs in
    put_by_cases way id x xs (λ z. IsAmong id z) (λ e. inl e) (λ _ _. inl refl) (λ _ _. inr later)

pub put_by_keeps : (way : ℕ → ℕ) (id y : ℕ) (xs : List ℕ) → IsAmong y xs
    → IsAmong y (put_by way id xs)
put_by_keeps way id y [] h = absurd h
put_by_keeps way id y (x ∷ xs) (inl e) =
    put_by_cases way id x xs (λ z. IsAmong y z) (λ _. inl e) (λ _ _. inr (inl e)) (λ _ _. inl e)
put_by_keeps way id y (x ∷ xs) (inr h) =
    let later = put_by_keeps way id y xs h in
    put_by_cases way id x xs (λ z. IsAmong y z) (λ _. inr h) (λ _ _. inr (inr h)) (λ _ _. inr later)

put_by_rising : (way : ℕ → ℕ) (id : ℕ) (xs : List ℕ)
    → ((x : ℕ) → IsAmong x xs → way id ≡ way x → id ≡ x) → IsRising way xs
    → IsRising way (put_by way id xs)
put_by_rising way id [] tells r = ((λ y h. absurd h), tt)
put_by_rising way id (x ∷ xs) tells r =
    let later = put_by_rising way id xs (λ y h. tells y (inr h)) r.1 in
    put_by_cases way id x xs (IsRising way)
    (λ _. r)
    (λ _ l. (
      (λ y. ⊎_elim
          (λ (e : y ≡ x). let f = ap way e in omega arith)
          (λ (h : IsAmong y xs). let m = r.0 y h in omega arith)),
      r,
    ))
    (λ n l.
    let apart : way id ≢ way x = λ e. n (tells x (inl refl) e) in (
      (λ y h. ⊎_elim
          (λ (e : y ≡ id). let f = ap way e in omega arith)
          (λ (i : IsAmong y xs). r.0 y i)
          (among-put_by way id y xs h)),
      later,
    ))

pub among-by_way : (way : ℕ → ℕ) (y : ℕ) (xs : List ℕ) → IsAmong y (by_way way xs) → IsAmong y xs
among-by_way way y [] h = h
among-by_way way y (x ∷ xs) h = ⊎_elim
    (λ (e : y ≡ x). inl e)
    (λ (i : IsAmong y (by_way way xs)). inr (among-by_way way y xs i))
    (among-put_by way x y (by_way way xs) h)

pub by_way_has : (way : ℕ → ℕ) (y : ℕ) (xs : List ℕ) → IsAmong y xs → IsAmong y (by_way way xs)
by_way_has way y [] h = h
by_way_has way y (x ∷ xs) (inl e) =
    subst (λ z. IsAmong z (put_by way x (by_way way xs))) (sym e) (put_by_has way x (by_way way xs))
by_way_has way y (x ∷ xs) (inr h) = put_by_keeps way x y (by_way way xs) (by_way_has way y xs h)

pub by_way_rising : (way : ℕ → ℕ) (xs : List ℕ) → TellsApart way xs → IsRising way (by_way way xs)
by_way_rising way [] tells = tt
by_way_rising way (x ∷ xs) tells = put_by_rising way x (by_way way xs)
    (λ y h e. tells x y (inl refl) (inr (among-by_way way y xs h)) e)
    (by_way_rising way xs (λ y z h i. tells y z (inr h) (inr i)))

-- how a rising list begins, a part of it begins that has that beginning
pub front_same : (way : ℕ → ℕ) (n : ℕ) (part whole : List ℕ) → IsRising way part
    → IsRising way whole → AreAmong part whole → AreAmong (take n whole) part
    → take n part ≡ take n whole
front_same way zero part whole r s sub cover = refl
front_same way (suc n) [] [] r s sub cover = refl
front_same way (suc n) (a ∷ ps) [] r s sub cover = absurd (sub a (inl refl))
front_same way (suc n) [] (b ∷ bs) r s sub cover = absurd (cover b (inl refl))
front_same way (suc n) (a ∷ ps) (b ∷ bs) r s sub cover =
    let e : a ≡ b = first (cover b (inl refl)) (sub a (inl refl)) in
    same_ends e (front_same way n ps bs r.1 s.1
    (λ y h. rest y h (sub y (inr h)) e)
    (λ y h. covers y h (cover y (inr h)) e))
  where
    first : IsAmong b (a ∷ ps) → IsAmong a (b ∷ bs) → a ≡ b
    first (inl e) i = sym e
    first (inr h) (inl e) = e
    first (inr h) (inr i) = let x = r.0 b h in let y = s.0 a i in absurd (omega arith)

    rest : (y : ℕ) → IsAmong y ps → IsAmong y (b ∷ bs) → a ≡ b → IsAmong y bs
    rest y h (inl e) same =
        let x = r.0 y h in let z : way a ≡ way y = ap way (same ∙ sym e) in absurd (omega arith)
    rest y h (inr i) same = i

    covers : (y : ℕ) → IsAmong y (take n bs) → IsAmong y (a ∷ ps) → a ≡ b → IsAmong y ps
    covers y h (inl e) same =
        let x = s.0 y (among-take n y bs h) in
        let z : way b ≡ way y = ap way (sym same ∙ sym e) in
        absurd (omega arith)
    covers y h (inr i) same = i

    same_ends : a ≡ b → take n ps ≡ take n bs → a ∷ take n ps ≡ b ∷ take n bs
    same_ends e f = cc

-- the first of those that are named are the first of all, where all those first are named
pub first_of_named : (way : ℕ → ℕ) (n : ℕ) (named all : List ℕ) → TellsApart way all
    → AreAmong named all → AreAmong (take n (by_way way all)) named
    → take n (by_way way named) ≡ take n (by_way way all)
first_of_named way n named all tells sub cover =
    front_same way n (by_way way named) (by_way way all)
    (by_way_rising way named (tells_fewer way named all sub tells))
    (by_way_rising way all tells)
    (λ y h. by_way_has way y all (sub y (among-by_way way y named h)))
    (λ y h. by_way_has way y named (cover y h))

-- the first of a rising list is the least
rising_least : (way : ℕ → ℕ) (x : ℕ) (xs : List ℕ) → IsRising way xs → slice_get xs 0 ≡ Some x
    → IsAmong x xs × ((y : ℕ) → IsAmong y xs → way x ≤ way y)
rising_least way x [] r e = absurd (cc)
rising_least way x (z ∷ zs) r e =
    let same : z ≡ x = cc in
    let is : way z ≡ way x = ap way same in (
      inl (sym same),
      (λ y. ⊎_elim
          (λ (i : y ≡ z). let k = ap way i in omega arith)
          (λ (i : IsAmong y zs). let k = r.0 y i in omega arith)),
    )

pub least_first : (way : ℕ → ℕ) (x : ℕ) (xs : List ℕ) → TellsApart way xs
    → slice_get (by_way way xs) 0 ≡ Some x → IsAmong x xs × ((y : ℕ) → IsAmong y xs → way x ≤ way y)
least_first way x xs tells e =
    let f = rising_least way x (by_way way xs) (by_way_rising way xs tells) e in
    (among-by_way way x xs f.0, (λ y i. f.1 y (by_way_has way y xs i)))

-- the second is the least of the others
rising_second : (way : ℕ → ℕ) (f s : ℕ) (xs : List ℕ) → IsRising way xs → slice_get xs 0 ≡ Some f
    → slice_get xs 1 ≡ Some s
    → (IsAmong s xs × (way f < way s)) × ((y : ℕ) → IsAmong y xs → y ≢ f → way s ≤ way y)
rising_second way f s [] r e g = absurd (cc)
rising_second way f s (z ∷ zs) r e g =
    let same : z ≡ f = cc in
    let is : way z ≡ way f = ap way same in
    let least = rising_least way s zs r.1 g in
    let l = r.0 s least.0 in (
      (inr least.0, omega arith),
      (λ y. ⊎_elim
          (λ (i : y ≡ z). λ n. absurd (n (i ∙ same)))
          (λ (i : IsAmong y zs). λ _. least.1 y i)),
    )

pub least_second : (way : ℕ → ℕ) (f s : ℕ) (xs : List ℕ) → TellsApart way xs
    → slice_get (by_way way xs) 0 ≡ Some f → slice_get (by_way way xs) 1 ≡ Some s
    → (IsAmong s xs × (way f < way s)) × ((y : ℕ) → IsAmong y xs → y ≢ f → way s ≤ way y)
least_second way f s xs tells e g =
    let r = rising_second way f s (by_way way xs) (by_way_rising way xs tells) e g in
    ((among-by_way way s xs r.0.0, r.0.1), (λ y i n. r.1 y (by_way_has way y xs i) n))
