-- Lists in parts, and what a filter keeps of them.
use Rattle.std.proofs.Common.{◌≡◌, refl, ℕ, ◌<◌, ◌≤◌, ◌+◌, ◌-◌, ◌∙◌, Bool, true, false, cond, ◌&&◌, List, [], ◌∷◌, ◌++◌, length, map, ⊎_elim, slice_get, Some, take, drop, ap, arith, length-append, length-take, length-drop}
use Rattle.std.specs.List.{All, AllWithin, filter, flat_map}
use Rattle.std.specs.List.Sorted.{IsNonDecreasingBy, IsStrictlyIncreasing}
use Rattle.std.specs.Option.{option_map}
use Rattle.std.proofs.lemmas.Option.{same_Some, slice_get-get_or}
use Rattle.std.proofs.Math.ListN.{get_or}
use Rattle.std.proofs.lemmas.List.{take_more, append-nil, get_or-take, get_or-drop, get_or_append_left, get_or-append-add, length-map}
use Rattle.std.proofs.Math.ListN.{get_or-map}
use Rattle.std.proofs.lemmas.List.Kept.{AllPairs-from_increasing}
use Rattle.std.proofs.lemmas.Bool.{cases_lt}
use Rattle.std.proofs.lemmas.Grind.{flat_map-append}
use Rattle.std.proofs.lemmas.List.Elements.{All-head, All-tail}

pub front_all : {X : Type 0} (P : X → Type 0) (xs : List X) (i : ℕ) → i ≤ length xs
    → AllWithin P xs 0 i → All P (take i xs)
front_all P xs i in' h k d lt =
    let long = length-take i xs in
    let below : k < i = omega arith in
    rw (get_or-take i xs k d below) (h k d (omega arith) below)

pub back_all : {X : Type 0} (P : X → Type 0) (xs : List X) (i : ℕ) → i ≤ length xs
    → AllWithin P xs i (length xs) → All P (drop i xs)
back_all P xs i in' h k d lt =
    let long = length-drop i xs in
    rw (get_or-drop i xs k d) (h (i + k) d (omega arith) (omega arith))

pub front_part : {X : Type 0} (P : X → Type 0) (xs ys all : List X) → all ≡ xs ++ ys → All P all
    → All P xs
front_part P xs ys all is h k d lt =
    let long = length-append xs ys in
    let same : length all ≡ length (xs ++ ys) = ap length is in
    let there : get_or all k d ≡ get_or xs k d = rw is (get_or_append_left xs ys d k lt) in
    rw (← there) (h k d (omega arith))

pub back_part : {X : Type 0} (P : X → Type 0) (xs ys all : List X) → all ≡ xs ++ ys → All P all
    → All P ys
back_part P xs ys all is h k d lt =
    let long = length-append xs ys in
    let same : length all ≡ length (xs ++ ys) = ap length is in
    let there : get_or all (length xs + k) d ≡ get_or ys k d =
    rw is (get_or-append-add xs ys k d) in
    rw (← there) (h (length xs + k) d (omega arith))

pub filter_all : {X : Type 0} (p : X → Bool) (xs : List X) → All (λ x. p x ≡ true) xs
    → filter p xs ≡ xs
filter_all p [] h = refl
filter_all p (x ∷ xs) h =
    let head = All-head (λ y. p y ≡ true) x xs h in
    let rest = filter_all p xs (All-tail (λ y. p y ≡ true) x xs h) in
    rw (head, rest) refl

pub filter_none : {X : Type 0} (p : X → Bool) (xs : List X) → All (λ x. p x ≡ false) xs
    → filter p xs ≡ []
filter_none p [] h = refl
filter_none p (x ∷ xs) h =
    let head = All-head (λ y. p y ≡ false) x xs h in
    let rest = filter_none p xs (All-tail (λ y. p y ≡ false) x xs h) in
    rw (head, rest) refl

-- parts of a list that doesn't fall
pub front_rising : {X : Type 0} (n : X → ℕ) (xs ys all : List X) → all ≡ xs ++ ys
    → IsNonDecreasingBy n all → IsNonDecreasingBy n xs
front_rising n xs ys all is up i j d le lt =
    let long = length-append xs ys in
    let same : length all ≡ length (xs ++ ys) = ap length is in
    let here : get_or all i d ≡ get_or xs i d =
    rw is (get_or_append_left xs ys d i (omega arith)) in
    let there : get_or all j d ≡ get_or xs j d = rw is (get_or_append_left xs ys d j lt) in
    let h : n (get_or all i d) ≤ n (get_or all j d) = up i j d le (omega arith) in
    omega (arith, ap n here, ap n there)

pub back_rising : {X : Type 0} (n : X → ℕ) (xs ys all : List X) → all ≡ xs ++ ys
    → IsNonDecreasingBy n all → IsNonDecreasingBy n ys
back_rising n xs ys all is up i j d le lt =
    let long = length-append xs ys in
    let same : length all ≡ length (xs ++ ys) = ap length is in
    let here : get_or all (length xs + i) d ≡ get_or ys i d = rw is (get_or-append-add xs ys i d) in
    let there : get_or all (length xs + j) d ≡ get_or ys j d =
    rw is (get_or-append-add xs ys j d) in
    let h : n (get_or all (length xs + i) d) ≤ n (get_or all (length xs + j) d) =
    up (length xs + i) (length xs + j) d (omega arith) (omega arith) in
    omega (arith, ap n here, ap n there)

-- a list that doesn't fall lies below what its last item does
pub below_greatest : {X : Type 0} (n : X → ℕ) (xs : List X) (g w : ℕ) → IsNonDecreasingBy n xs
    → Some g ≡ option_map n (slice_get xs (length xs - 1)) → g < w → All (λ x. n x < w) xs
below_greatest n xs g w up is fits k d lt =
    let there = slice_get-get_or xs (length xs - 1) d (omega arith) in
    let same : g ≡ n (get_or xs (length xs - 1) d) = same_Some _ _ (is ∙ ap (option_map n) there) in
    let h : n (get_or xs k d) ≤ n (get_or xs (length xs - 1) d) =
    up k (length xs - 1) d (omega arith) (omega arith) in
    omega arith

-- a list whose numbers rise strictly doesn't fall
pub strictly_rising : {X : Type 0} (n : X → ℕ) (xs : List X) → IsStrictlyIncreasing (map n xs)
    → IsNonDecreasingBy n xs
strictly_rising n xs up i j d le lt =
    ⊎_elim
    (λ before.
    let long = length-map xs n in
    let here = get_or-map n xs i d in
    let there = get_or-map n xs j d in
    let h = AllPairs-from_increasing (map n xs) up i j (n d) before (omega arith) in
    omega arith)
    (λ back. let same : i ≡ j = omega arith in omega (arith, ap (λ k. n (get_or xs k d)) same))
    (cases_lt i j)

pub filter_twice : {X : Type 0} (p q : X → Bool) (xs : List X)
    → filter p (filter q xs) ≡ filter (λ x. q x && p x) xs
filter_twice p q [] = refl
filter_twice p q (x ∷ xs) = twice (q x) (p x) (filter_twice p q xs) refl
  where
    twice : (a b : Bool) → filter p (filter q xs) ≡ filter (λ y. q y && p y) xs → p x ≡ b
        → filter p (cond a (x ∷ filter q xs) (filter q xs)) ≡ cond (a && b)
        (x ∷ filter (λ y. q y && p y) xs) (filter (λ y. q y && p y) xs)
    twice true true h is = rw (is, h) refl
    twice true false h is = rw (is, h) refl
    twice false b h is = h

-- one more item, in a loop that puts a list for each behind the others
pub flat_map_step : {X Y : Type 0} (f : X → List Y) (xs : List X) (i : ℕ) (d : X)
    (done next : List Y) → i < length xs
    → done ≡ flat_map f (take i xs) → next ≡ done ++ f (get_or xs i d)
    → next ≡ flat_map f (take (i + 1) xs)
flat_map_step f xs i d done next lt is more =
    rw (
      more,
      is,
      take_more xs i d lt,
      flat_map-append f (take i xs)
          (get_or xs i d ∷ []),
      append-nil,
    ) refl
