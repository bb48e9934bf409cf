-- The last and the first of ids by a way are the ones with the greatest and with the least way.
use Rattle.std.proofs.Common.{◌≡◌, ℕ, ◌<◌, ◌≤◌, Bool, true, false, cond, List, [], ◌∷◌, refl, ap, sym, ◌∙◌, arith}
use Rattle.std.specs.Prelude.{◌==◌, nat_lt, nat_le, slice_get, Some, None}
use Rattle.std.specs.Option.{option_map_or}
use Rattle.std.specs.List.{last_or}
use Rattle.std.proofs.lemmas.Bool.{ltb-true, ltb-false}
use Rattle.std.proofs.lemmas.Bool.Decides.{nat_tests}
use Rattle.chord_tables.specs.Neighbours.{put_by, by_way}

-- ways don't fall from an id on
abbrev Grows : (ℕ → ℕ) → ℕ → List ℕ → Type 0
Grows way b [] = Unit {0}
Grows way b (y ∷ ys) = (way b ≤ way y) × Grows way y ys

-- the last from an id on
abbrev pub end_of : ℕ → List ℕ → ℕ
end_of b [] = b
end_of b (y ∷ ys) = end_of y ys

grows_step : (e l : Bool) (way : ℕ → ℕ) (b x y : ℕ) (ys zs : List ℕ) → l ≡ nat_lt (way x) (way y)
    → way b ≤ way y → way b ≤ way x → Grows way y ys → (way y ≤ way x → Grows way y zs)
    → Grows way b (cond e (y ∷ ys) (cond l (x ∷ y ∷ ys) (y ∷ zs)))
grows_step true l way b x y ys zs h le to g then = (le, g)
grows_step false true way b x y ys zs h le to g then =
    let lt : way x < way y = ltb-true (way x) (way y) (sym h) in (to, (omega arith, g))
grows_step false false way b x y ys zs h le to g then =
    (le, then (ltb-false (way x) (way y) (sym h)))

put_grows : (way : ℕ → ℕ) (b x : ℕ) (xs : List ℕ) → Grows way b xs → way b ≤ way x
    → Grows way b (put_by way x xs)
put_grows way b x [] g le = (le, tt)
put_grows way b x (y ∷ ys) g le =
    grows_step (x == y) (nat_lt (way x) (way y)) way b x y ys (put_by way x ys) refl g.0 le g.1
    (put_grows way y x ys g.1)

-- from an id without a way, ids by their way don't fall
pub by_way_grows : (way : ℕ → ℕ) (b : ℕ) (xs : List ℕ) → way b ≡ 0 → Grows way b (by_way way xs)
by_way_grows way b [] z = tt
by_way_grows way b (x ∷ xs) z =
    put_grows way b x (by_way way xs) (by_way_grows way b xs z) (omega arith)

end_greatest : (way : ℕ → ℕ) (b : ℕ) (xs : List ℕ) → Grows way b xs → way b ≤ way (end_of b xs)
end_greatest way b [] g = omega arith
end_greatest way b (y ∷ ys) g =
    let h : way y ≤ way (end_of y ys) = end_greatest way y ys g.1 in
    let f : way b ≤ way y = g.0 in omega arith

chosen : (t : Bool) (a x : ℕ) → (t ≡ false → a ≡ x) → a ≡ cond t a x
chosen true a x h = refl
chosen false a x h = h refl

first_chosen : (t : Bool) (a x : ℕ) → t ≡ true → a ≡ cond t a x
first_chosen true a x h = refl
first_chosen false a x h = cc

second_chosen : (t : Bool) (a x : ℕ) → t ≡ false → x ≡ cond t a x
second_chosen true a x h = cc
second_chosen false a x h = refl

is_less : (a b : ℕ) → a < b → nat_lt a b ≡ true
is_less a b h = grind (arith, nat_tests)

is_not_less : (a b : ℕ) → b ≤ a → nat_lt a b ≡ false
is_not_less a b h = grind (arith, nat_tests)

are_equal : (a b : ℕ) → (a == b) ≡ true → a ≡ b
are_equal a b h = grind (arith, nat_tests)

end_step : (e l : Bool) (way : ℕ → ℕ) (x y : ℕ) (ys zs : List ℕ) → e ≡ (x == y)
    → l ≡ nat_lt (way x) (way y)
    → way y ≤ way (end_of y ys) → (way (end_of y ys) ≡ way x → end_of y ys ≡ x)
    → (way y ≤ way x → end_of y zs ≡ cond (nat_lt (way x) (way (end_of y ys))) (end_of y ys) x)
    → (b : ℕ)
    → end_of b (cond e (y ∷ ys) (cond l (x ∷ y ∷ ys) (y ∷ zs)))
    ≡ cond (nat_lt (way x) (way (end_of y ys))) (end_of y ys) x
end_step true l way x y ys zs he hl le one then b =
    let same : way x ≡ way y = ap way (are_equal x y (sym he)) in
    chosen (nat_lt (way x) (way (end_of y ys))) (end_of y ys) x (λ no.
    let ge : way (end_of y ys) ≤ way x = ltb-false (way x) (way (end_of y ys)) no in
    one (omega arith))
end_step false true way x y ys zs he hl le one then b =
    let lt : way x < way y = ltb-true (way x) (way y) (sym hl) in
    first_chosen (nat_lt (way x) (way (end_of y ys))) (end_of y ys) x
    (is_less (way x) (way (end_of y ys)) (omega arith))
end_step false false way x y ys zs he hl le one then b = then (ltb-false (way x) (way y) (sym hl))

-- the last, once an id was put, is the one of the two with the greater way
end_put : (way : ℕ → ℕ) (b x : ℕ) (xs : List ℕ) → Grows way b xs → way b ≤ way x
    → (way (end_of b xs) ≡ way x → end_of b xs ≡ x)
    → end_of b (put_by way x xs) ≡ cond (nat_lt (way x) (way (end_of b xs))) (end_of b xs) x
end_put way b x [] g le one =
    second_chosen (nat_lt (way x) (way b)) b x (is_not_less (way x) (way b) le)
end_put way b x (y ∷ ys) g le one =
    end_step (x == y) (nat_lt (way x) (way y)) way x y ys (put_by way x ys) refl refl
    (end_greatest way y ys g.1) one
    (λ up. end_put way y x ys g.1 up one) b

last_from : (b : ℕ) (xs : List ℕ) → last_or (Some b) xs ≡ Some (end_of b xs)
last_from b [] = refl
last_from b (y ∷ ys) = last_from y ys

last_step : (e l : Bool) (b x y : ℕ) (ys zs : List ℕ)
    → last_or None (cond e (y ∷ ys) (cond l (x ∷ y ∷ ys) (y ∷ zs)))
    ≡ Some (end_of b (cond e (y ∷ ys) (cond l (x ∷ y ∷ ys) (y ∷ zs))))
last_step true l b x y ys zs = last_from y ys
last_step false true b x y ys zs = last_from y ys
last_step false false b x y ys zs = last_from y zs

last_of_put : (way : ℕ → ℕ) (b x : ℕ) (xs : List ℕ)
    → last_or None (put_by way x xs) ≡ Some (end_of b (put_by way x xs))
last_of_put way b x [] = refl
last_of_put way b x (y ∷ ys) =
    last_step (x == y) (nat_lt (way x) (way y)) b x y ys (put_by way x ys)

some_of : (t : Bool) (a x : ℕ) → Some (cond t a x) ≡ cond t (Some a) (Some x)
some_of true a x = refl
some_of false a x = refl

best_of : (way : ℕ → ℕ) (b x : ℕ) (xs : List ℕ) → way b ≡ 0
    → Some (cond (nat_lt (way x) (way (end_of b xs))) (end_of b xs) x)
    ≡ option_map_or (λ far. cond (nat_lt (way x) (way far)) (Some far) (Some x))
    (last_or None xs) (Some x)
best_of way b x [] z =
    ap Some (sym (second_chosen (nat_lt (way x) (way b)) b x
    (is_not_less (way x) (way b) (omega arith))))
best_of way b x (y ∷ ys) z =
    some_of (nat_lt (way x) (way (end_of y ys))) (end_of y ys) x
    ∙ ap (λ o. option_map_or (λ far. cond (nat_lt (way x) (way far)) (Some far) (Some x)) o (Some x))
    (sym (last_from y ys))

-- the last of ids by a way, with one more id
pub last_put : (way : ℕ → ℕ) (b x : ℕ) (xs : List ℕ) → way b ≡ 0
    → (way (end_of b (by_way way xs)) ≡ way x → end_of b (by_way way xs) ≡ x)
    → last_or None (by_way way (x ∷ xs))
    ≡ option_map_or (λ far. cond (nat_lt (way x) (way far)) (Some far) (Some x))
    (last_or None (by_way way xs)) (Some x)
last_put way b x xs z one =
    last_of_put way b x (by_way way xs)
    ∙ ap Some (end_put way b x (by_way way xs) (by_way_grows way b xs z) (omega arith) one)
    ∙ best_of way b x (by_way way xs) z

some_first : (t : Bool) (x y : ℕ) → t ≡ true → Some y ≡ cond t (Some y) (Some x)
some_first true x y h = refl
some_first false x y h = cc

some_second : (t : Bool) (x y : ℕ) → t ≡ false → Some x ≡ cond t (Some y) (Some x)
some_second true x y h = cc
some_second false x y h = refl

is_no_more : (a b : ℕ) → a ≤ b → nat_le a b ≡ true
is_no_more a b h = grind (arith, nat_tests)

is_more : (a b : ℕ) → b < a → nat_le a b ≡ false
is_more a b h = grind (arith, nat_tests)

first_step : (e l : Bool) (way : ℕ → ℕ) (x y : ℕ) (ys zs : List ℕ) → e ≡ (x == y)
    → l ≡ nat_lt (way x) (way y)
    → slice_get (cond e (y ∷ ys) (cond l (x ∷ y ∷ ys) (y ∷ zs))) 0
    ≡ cond (nat_le (way y) (way x)) (Some y) (Some x)
first_step true l way x y ys zs he hl =
    let same : way x ≡ way y = ap way (are_equal x y (sym he)) in
    some_first (nat_le (way y) (way x)) x y (is_no_more (way y) (way x) (omega arith))
first_step false true way x y ys zs he hl =
    some_second (nat_le (way y) (way x)) x y
    (is_more (way y) (way x) (ltb-true (way x) (way y) (sym hl)))
first_step false false way x y ys zs he hl =
    some_first (nat_le (way y) (way x)) x y
    (is_no_more (way y) (way x) (ltb-false (way x) (way y) (sym hl)))

-- the first of ids by a way, with one more id
pub first_put : (way : ℕ → ℕ) (x : ℕ) (xs : List ℕ)
    → slice_get (by_way way (x ∷ xs)) 0
    ≡ option_map_or (λ near. cond (nat_le (way near) (way x)) (Some near) (Some x))
    (slice_get (by_way way xs) 0) (Some x)
first_put way x xs = first_into (by_way way xs)
  where
    first_into : (ys : List ℕ)
        → slice_get (put_by way x ys) 0
        ≡ option_map_or (λ near. cond (nat_le (way near) (way x)) (Some near) (Some x))
        (slice_get ys 0) (Some x)
    first_into [] = refl
    first_into (y ∷ ys) =
        first_step (x == y) (nat_lt (way x) (way y)) way x y ys (put_by way x ys) refl refl
