-- How many of a list come before a way: an id is one of the first n where fewer than n do.
use Rattle.std.proofs.Common.{◌≡◌, ℕ, zero, suc, ◌+◌, ◌<◌, ◌≤◌, Bool, true, false, cond, not, ltb, eqb, List, [], ◌∷◌, take, length, refl, sym, ap, ◌∙◌, inl, inr, ⊎_elim, arith}
use Rattle.std.proofs.lemmas.Bool.Decides.{nat_tests}
use Rattle.chord_tables.specs.Neighbours.{put_by, by_way, without}
use Rattle.ring_laws.specs.Members.{IsAmong, AreMembers, IsRising}
use Rattle.ring_laws.proofs.Lists.{among-take, without_cases}
use Rattle.ring_laws.proofs.Rising.{put_by_cases, among-by_way}

abbrev pub count_below : (ℕ → ℕ) → ℕ → List ℕ → ℕ
count_below way n [] = 0
count_below way n (x ∷ xs) = cond (ltb (way x) n) 1 0 + count_below way n xs

none_step : (m n c : ℕ) → n ≤ m → c ≡ 0 → cond (ltb m n) 1 0 + c ≡ 0
none_step m n c l e = grind (arith, nat_tests)

none_below : (way : ℕ → ℕ) (n : ℕ) (xs : List ℕ) → ((y : ℕ) → IsAmong y xs → n ≤ way y)
    → count_below way n xs ≡ 0
none_below way n [] h = refl
none_below way n (x ∷ xs) h =
    none_step (way x) n (count_below way n xs) (h x (inl refl))
    (none_below way n xs (λ y i. h y (inr i)))

step_below : (m n c k : ℕ) → m < n → c < k → cond (ltb m n) 1 0 + c < suc k
step_below m n c k l e = grind (arith, nat_tests)

step_back : (m n c k : ℕ) → m < n → cond (ltb m n) 1 0 + c < suc k → c < k
step_back m n c k l e = grind (arith, nat_tests)

pub count_in_front : (way : ℕ → ℕ) (k y : ℕ) (xs : List ℕ) → IsRising way xs → IsAmong y (take k xs)
    → count_below way (way y) xs < k
count_in_front way zero y xs r h = absurd h
count_in_front way (suc k) y [] r h = absurd h
count_in_front way (suc k) y (x ∷ xs) r (inl e) =
    let z : way y ≡ way x = ap way e in
    let none = none_below way (way y) (x ∷ xs) (λ w. ⊎_elim
    (λ (i : w ≡ x). let j : way w ≡ way x = ap way i in omega arith)
    (λ (i : IsAmong w xs). let j = r.0 w i in omega arith)) in
    omega arith
count_in_front way (suc k) y (x ∷ xs) r (inr h) =
    step_below (way x) (way y) (count_below way (way y) xs) k
    (r.0 y (among-take k y xs h)) (count_in_front way k y xs r.1 h)

pub in_front : (way : ℕ → ℕ) (k y : ℕ) (xs : List ℕ) → IsRising way xs → IsAmong y xs
    → count_below way (way y) xs < k → IsAmong y (take k xs)
in_front way zero y xs r h l = absurd (omega arith)
in_front way (suc k) y [] r h l = h
in_front way (suc k) y (x ∷ xs) r (inl e) l = inl e
in_front way (suc k) y (x ∷ xs) r (inr h) l =
    inr (in_front way k y xs r.1 h (step_back (way x) (way y) (count_below way (way y) xs) k
    (r.0 y h) l))

-- the order is no matter of the count
count-put_by : (way : ℕ → ℕ) (n id : ℕ) (xs : List ℕ) → ¬ IsAmong id xs
    → count_below way n (put_by way id xs) ≡ cond (ltb (way id) n) 1 0 + count_below way n xs
count-put_by way n id [] out = refl
count-put_by way n id (x ∷ xs) out =
    let later = count-put_by way n id xs (λ h. out (inr h)) in
    put_by_cases way id x xs
    (λ z. count_below way n z ≡ cond (ltb (way id) n) 1 0 + count_below way n (x ∷ xs))
    (λ e. absurd (out (inl e))) (λ _ _. refl) (λ _ _. omega arith)

pub count-by_way : (way : ℕ → ℕ) (n : ℕ) (xs : List ℕ) → AreMembers xs
    → count_below way n (by_way way xs) ≡ count_below way n xs
count-by_way way n [] d = refl
count-by_way way n (x ∷ xs) d =
    count-put_by way n x (by_way way xs) (λ h. d.1 (among-by_way way x xs h))
    ∙ ap (λ z. cond (ltb (way x) n) 1 0 + z) (count-by_way way n xs d.2)

step_le : (a b : Bool) (c d : ℕ) → (a ≡ true → b ≡ true) → c ≤ d → cond a 1 0 + c ≤ cond b 1 0 + d
step_le true true c d h l = omega arith
step_le true false c d h l = let k = h refl in absurd (cc)
step_le false b c d h l = omega arith

-- what comes before the one comes before the other
pub count_le : (way way' : ℕ → ℕ) (n n' : ℕ) (xs : List ℕ)
    → ((m : ℕ) → IsAmong m xs → ltb (way m) n ≡ true → ltb (way' m) n' ≡ true)
    → count_below way n xs ≤ count_below way' n' xs
count_le way way' n n' [] h = omega arith
count_le way way' n n' (x ∷ xs) h =
    step_le (ltb (way x) n) (ltb (way' x) n') _ _ (h x (inl refl))
    (count_le way way' n n' xs (λ m i. h m (inr i)))

-- with one more, there are no fewer
pub count_fewer : (way : ℕ → ℕ) (n p j : ℕ) (xs : List ℕ)
    → count_below way n (without p xs) ≤ count_below way n (without p (j ∷ xs))
count_fewer way n p j xs =
    without_cases p j xs (λ z. count_below way n (without p xs) ≤ count_below way n z)
    (λ _. omega arith) (λ _. omega arith)

pub count_without_le : (way : ℕ → ℕ) (n p : ℕ) (xs : List ℕ)
    → count_below way n (without p xs) ≤ count_below way n xs
count_without_le way n p [] = omega arith
count_without_le way n p (x ∷ xs) =
    let later = count_without_le way n p xs in
    without_cases p x xs (λ z. count_below way n z ≤ count_below way n (x ∷ xs))
    (λ _. omega arith) (λ _. omega arith)

pub count-without : (way : ℕ → ℕ) (n p x : ℕ) (xs : List ℕ)
    → count_below way n (without p (x ∷ xs)) ≡ cond (eqb x p) (count_below way n (without p xs))
    (cond (ltb (way x) n) 1 0 + count_below way n (without p xs))
count-without way n p x xs = skip (eqb x p)
  where
    skip : (b : Bool)
        → count_below way n (cond (not b) (x ∷ without p xs) (without p xs)) ≡ cond b
        (count_below way n (without p xs))
        (cond (ltb (way x) n) 1 0 + count_below way n (without p xs))
    skip true = refl
    skip false = refl

skip_step : (a b c : Bool) (n m : ℕ) → (a ≡ true → (b ≡ false) × (c ≡ true)) → n ≤ m
    → cond a 1 0 + n ≤ cond b m (cond c 1 0 + m)
skip_step true true c n m h l = let k = (h refl).0 in absurd (cc)
skip_step true false true n m h l = omega arith
skip_step true false false n m h l = let k = (h refl).1 in absurd (cc)
skip_step false true c n m h l = omega arith
skip_step false false c n m h l = omega arith

-- what comes before the one comes before the other, and isn't p
pub count_le_skip : (way way' : ℕ → ℕ) (n n' p : ℕ) (xs : List ℕ)
    → ((m : ℕ) → IsAmong m xs → ltb (way m) n ≡ true → (eqb m p ≡ false) × (ltb (way' m) n' ≡ true))
    → count_below way n xs ≤ count_below way' n' (without p xs)
count_le_skip way way' n n' p [] h = omega arith
count_le_skip way way' n n' p (x ∷ xs) h =
    let later = count_le_skip way way' n n' p xs (λ m i. h m (inr i)) in
    let e = count-without way' n' p x xs in
    let l = skip_step (ltb (way x) n) (eqb x p) (ltb (way' x) n') _ _ (h x (inl refl)) later in
    omega arith

step_none : (m n c d : ℕ) → m ≡ n → c ≤ d → cond (ltb m n) 1 0 + c < suc d
step_none m n c d e l = grind (arith, nat_tests)

step_more : (m n r c d : ℕ) → m ≡ n → m < r → c ≤ d
    → cond (ltb m n) 1 0 + c < cond (ltb m r) 1 0 + d
step_more m n r c d e l f = grind (arith, nat_tests)

step_later : (m n r c d : ℕ) → n < r → c < d → cond (ltb m n) 1 0 + c < cond (ltb m r) 1 0 + d
step_later m n r c d l f = grind (arith, nat_tests)

below_more : (m n r : ℕ) → n < r → ltb m n ≡ true → ltb m r ≡ true
below_more m n r l e = grind (arith, nat_tests)

-- an id isn't before itself
pub count_fewer_self : (way : ℕ → ℕ) (x n : ℕ) (xs : List ℕ) → IsAmong x xs → way x < n
    → count_below way (way x) xs < count_below way n xs
count_fewer_self way x n [] i l = absurd i
count_fewer_self way x n (y ∷ ys) (inl e) l =
    let f : way y ≡ way x = ap way (sym e) in
    step_more (way y) (way x) n (count_below way (way x) ys) (count_below way n ys) f (omega arith)
    (count_le way way (way x) n ys (λ m _. below_more (way m) (way x) n l))
count_fewer_self way x n (y ∷ ys) (inr i) l =
    step_later (way y) (way x) n (count_below way (way x) ys) (count_below way n ys) l
    (count_fewer_self way x n ys i l)

step_length : (m n c d : ℕ) → c ≤ d → cond (ltb m n) 1 0 + c ≤ suc d
step_length m n c d l = grind (arith, nat_tests)

count_length : (way : ℕ → ℕ) (n : ℕ) (xs : List ℕ) → count_below way n xs ≤ length xs
count_length way n [] = omega arith
count_length way n (x ∷ xs) =
    step_length (way x) n (count_below way n xs) (length xs) (count_length way n xs)

step_shorter : (m n c d : ℕ) → c < d → cond (ltb m n) 1 0 + c < suc d
step_shorter m n c d l = grind (arith, nat_tests)

pub count_length_self : (way : ℕ → ℕ) (x : ℕ) (xs : List ℕ) → IsAmong x xs
    → count_below way (way x) xs < length xs
count_length_self way x [] i = absurd i
count_length_self way x (y ∷ ys) (inl e) =
    step_none (way y) (way x) (count_below way (way x) ys) (length ys) (ap way (sym e))
    (count_length way (way x) ys)
count_length_self way x (y ∷ ys) (inr i) =
    step_shorter (way y) (way x) (count_below way (way x) ys) (length ys)
    (count_length_self way x ys i)
