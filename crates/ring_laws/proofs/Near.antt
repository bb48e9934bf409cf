-- The nearest by a way: by what they are named, and by their count.
use Rattle.std.proofs.Common.{◌≡◌, ◌≢◌, ℕ, suc, ◌<◌, ◌≤◌, List, [], ◌∷◌, take, slice_get, Some, None, ◌⊎◌, true, false, eqb, ltb, ap, subst, inl, inr, ⊎_elim, arith}
use Rattle.std.proofs.lemmas.Bool.{cases_eq, ne_eqb}
use Rattle.std.proofs.lemmas.Bool.Decides.{nat_tests}
use Rattle.chord_tables.specs.declared.TheConstants.{MAX_NEIGHBOURS}
use Rattle.chord_tables.specs.Neighbours.{by_way, without}
use Rattle.ring_laws.specs.Members.{IsAmong, AreAmong, AreMembers}
use Rattle.ring_laws.proofs.Lists.{among-take, among-without, without_has, members-without, without_swap}
use Rattle.ring_laws.proofs.Rising.{TellsApart, tells_fewer, by_way_rising, among-by_way, by_way_has, first_of_named, least_first, least_second}
use Rattle.ring_laws.proofs.Counts.{count_below, count_in_front, in_front, count-by_way, count_fewer, count_le_skip}

-- the nearest of others
abbrev pub near : (ℕ → ℕ) → ℕ → List ℕ → List ℕ
near way p xs = take MAX_NEIGHBOURS (by_way way (without p xs))

pub among-near : (way : ℕ → ℕ) (p y : ℕ) (xs : List ℕ) → IsAmong y (near way p xs)
    → IsAmong y xs × (y ≢ p)
among-near way p y xs h =
    among-without p y xs
    (among-by_way way y (without p xs) (among-take MAX_NEIGHBOURS y (by_way way (without p xs)) h))

tells_others : (way : ℕ → ℕ) (p : ℕ) (xs : List ℕ) → TellsApart way xs
    → TellsApart way (without p xs)
tells_others way p xs = tells_fewer way (without p xs) xs (λ y h. (among-without p y xs h).0)

-- who knows nobody but members, and those that are near, knows who is near
pub near-named : (way : ℕ → ℕ) (p : ℕ) (named xs : List ℕ) → TellsApart way xs → AreAmong named xs
    → AreAmong (near way p xs) named → near way p named ≡ near way p xs
near-named way p named xs tells sub cover =
    first_of_named way MAX_NEIGHBOURS (without p named) (without p xs) (tells_others way p xs tells)
    (λ y h. let k = among-without p y named h in without_has p y xs (sub y k.0) k.1)
    (λ y h. without_has p y named (cover y h) (among-near way p y xs h).1)

-- near is who has few before it
pub near-few : (way : ℕ → ℕ) (p y : ℕ) (xs : List ℕ) → TellsApart way xs → AreMembers xs
    → IsAmong y (near way p xs) → count_below way (way y) (without p xs) < MAX_NEIGHBOURS
near-few way p y xs tells d h =
    let r = by_way_rising way (without p xs) (tells_others way p xs tells) in
    let few = count_in_front way MAX_NEIGHBOURS y (by_way way (without p xs)) r h in
    let e = count-by_way way (way y) (without p xs) (members-without p xs d) in
    omega arith

pub near-from_few : (way : ℕ → ℕ) (p y : ℕ) (xs : List ℕ) → TellsApart way xs → AreMembers xs
    → IsAmong y xs → y ≢ p → count_below way (way y) (without p xs) < MAX_NEIGHBOURS
    → IsAmong y (near way p xs)
near-from_few way p y xs tells d a n few =
    let r = by_way_rising way (without p xs) (tells_others way p xs tells) in
    let e = count-by_way way (way y) (without p xs) (members-without p xs d) in
    in_front way MAX_NEIGHBOURS y (by_way way (without p xs)) r
    (by_way_has way y (without p xs) (without_has p y xs a n)) (omega arith)

first_taken : (n x : ℕ) (xs : List ℕ) → slice_get (take (suc n) xs) 0 ≡ Some x
    → slice_get xs 0 ≡ Some x
first_taken n x [] e = e
first_taken n x (z ∷ zs) e = e

none_taken : (n y : ℕ) (xs : List ℕ) → slice_get (take (suc n) xs) 0 ≡ None → ¬ IsAmong y xs
none_taken n y [] e = λ h. h
none_taken n y (z ∷ zs) e = absurd (cc)

-- the first of who is near is the nearest
pub near-first : (way : ℕ → ℕ) (p x : ℕ) (xs : List ℕ) → TellsApart way xs
    → slice_get (near way p xs) 0 ≡ Some x
    → (IsAmong x xs × (x ≢ p)) × ((y : ℕ) → IsAmong y xs → y ≢ p → way x ≤ way y)
near-first way p x xs tells e =
    let f = least_first way x (without p xs) (tells_others way p xs tells)
    (first_taken 2 x (by_way way (without p xs)) e) in
    (among-without p x xs f.0, (λ y a n. f.1 y (without_has p y xs a n)))

second_taken : (n x : ℕ) (xs : List ℕ) → slice_get (take (suc (suc n)) xs) 1 ≡ Some x
    → slice_get xs 1 ≡ Some x
second_taken n x [] e = e
second_taken n x (z ∷ []) e = e
second_taken n x (z ∷ w ∷ zs) e = e

-- the second of who is near is the nearest behind the first
pub near-second : (way : ℕ → ℕ) (p f s : ℕ) (xs : List ℕ) → TellsApart way xs
    → slice_get (near way p xs) 0 ≡ Some f → slice_get (near way p xs) 1 ≡ Some s
    → (IsAmong s xs × (way f < way s)) × ((y : ℕ) → IsAmong y xs → y ≢ p → y ≢ f → way s ≤ way y)
near-second way p f s xs tells e g =
    let r = least_second way f s (without p xs) (tells_others way p xs tells)
    (first_taken 2 f (by_way way (without p xs)) e)
    (second_taken 1 s (by_way way (without p xs)) g) in
    (((among-without p s xs r.0.0).0, r.0.1), (λ y a n m. r.1 y (without_has p y xs a n) m))

-- nobody is near a node that is alone
pub near-none : (way : ℕ → ℕ) (p y : ℕ) (xs : List ℕ) → slice_get (near way p xs) 0 ≡ None
    → IsAmong y xs → y ≢ p → ⊥
near-none way p y xs e a n =
    none_taken 2 y (by_way way (without p xs)) e
    (by_way_has way y (without p xs) (without_has p y xs a n))

-- with one member more, near is that one, or who was near before
pub near-old_or_new : (way : ℕ → ℕ) (p j y : ℕ) (xs : List ℕ) → TellsApart way (j ∷ xs)
    → AreMembers (j ∷ xs) → IsAmong y (near way p (j ∷ xs)) → (y ≡ j) ⊎ IsAmong y (near way p xs)
near-old_or_new way p j y xs tells d h =
    let there = among-near way p y (j ∷ xs) h in
    ⊎_elim
    (λ (e : y ≡ j). inl e)
    (λ (a : IsAmong y xs).
    let few = near-few way p y (j ∷ xs) tells d h in
    let l = count_fewer way (way y) p j xs in
    inr (near-from_few way p y xs (λ x z b c. tells x z (inr b) (inr c)) d.2 a there.1
    (omega arith)))
    there.0

-- a member that isn't near is no matter of who is
pub near-apart : (way : ℕ → ℕ) (p l : ℕ) (xs : List ℕ) → TellsApart way xs
    → ¬ IsAmong l (near way p xs) → near way p (without l xs) ≡ near way p xs
near-apart way p l xs tells out = near-named way p (without l xs) xs tells
    (λ y h. (among-without l y xs h).0)
    (λ y h.
    without_has l y xs (among-near way p y xs h).0
    (λ e. out (subst (λ z. IsAmong z (near way p xs)) e h)))

before_only : (way : ℕ → ℕ) (l y m : ℕ) → way y ≤ way l → ltb (way m) (way y) ≡ true
    → (eqb m l ≡ false) × (ltb (way m) (way y) ≡ true)
before_only way l y m n e = (
  ⊎_elim
      (λ (f : m ≡ l). let g : way m ≡ way l = ap way f in absurd
      (below_not (way m) (way y) (omega arith) e))
      (λ (f : m ≢ l). ne_eqb m l f)
      (cases_eq m l),
  e,
)
  where
    below_not : (m n : ℕ) → n ≤ m → ltb m n ≡ true → ⊥
    below_not m n l e = grind (arith, nat_tests)

-- who is near without a member that isn't nearer was near before
pub near-before : (way : ℕ → ℕ) (p l y : ℕ) (xs : List ℕ) → TellsApart way xs → AreMembers xs
    → way y ≤ way l → IsAmong y (near way p (without l xs)) → IsAmong y (near way p xs)
near-before way p l y xs tells d n h =
    let rest = without l xs in
    let there = among-near way p y rest h in
    let few = near-few way p y rest (tells_others way l xs tells) (members-without l xs d) h in
    let le =
    count_le_skip way way (way y) (way y) l (without p xs) (λ m _. before_only way l y m n) in
    let swap = ap (count_below way (way y)) (without_swap p l xs) in
    near-from_few way p y xs tells d (among-without l y xs there.0).0 there.1 (omega arith)
