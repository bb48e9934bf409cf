-- Where an id is put among ids by a rising way.
use Rattle.std.proofs.Common.{⊎_elim, ◌≡◌, ℕ, ◌+◌, ◌<◌, ◌≤◌, Bool, true, false, cond, List, [], ◌∷◌, ◌++◌, length, get_or, take, drop, refl, ap, sym, ◌∙◌, arith, inl, inr}
use Rattle.std.specs.Prelude.{◌==◌, ◌||◌, ◌⊎◌, not, nat_lt, zero, suc, insert, Some, None}
use Rattle.std.specs.List.{position, position_or_len}
use Rattle.std.specs.Option.{unwrap_or}
use Rattle.std.proofs.lemmas.Bool.{cases_lt, ltb-false}
use Rattle.std.proofs.lemmas.List.Sums.{prefix_len-le-length, fails_before_first, passes_at_first}
use Rattle.reload_ids.specs.declared.NodeId.{NodeId}
use Rattle.chord_tables.specs.declared.TheConstants.{MAX_NEIGHBOURS}
use Rattle.chord_tables.specs.declared.side.Side.{Side}
use Rattle.chord_tables.specs.Sides.{way, is_place, with_id}
use Rattle.chord_tables.specs.Tables.{ids}
use Rattle.std.proofs.lemmas.List.{length-map, take_all, drop_all, drop_more, take-append-drop}
use Rattle.chord_tables.specs.Neighbours.{put_by}

passed : (e l : Bool) (a b c : List ℕ) → (e || l) ≡ false → cond e a (cond l b c) ≡ c
passed true l a b c h = cc
passed false true a b c h = cc
passed false false a b c h = refl

-- an id goes behind those in front of its place
pub put_behind : (way : ℕ → ℕ) (id n : ℕ) (xs : List ℕ)
    → ((k : ℕ) → k < n → ((id == get_or xs k 0) || nat_lt (way id) (way (get_or xs k 0))) ≡ false)
    → n ≤ length xs → put_by way id xs ≡ take n xs ++ put_by way id (drop n xs)
put_behind way id zero xs h le = refl
put_behind way id (suc n) [] h le = absurd (omega arith)
put_behind way id (suc n) (x ∷ xs) h le =
    passed (id == x) (nat_lt (way id) (way x)) _ _ _ (h 0 (omega arith))
    ∙ ap (λ l. x ∷ l) (put_behind way id n xs (λ k l. h (suc k) (omega arith)) (omega arith))

-- an id that is behind all others goes to the end
pub put_last : (way : ℕ → ℕ) (id n : ℕ) (xs : List ℕ) → n ≡ length xs
    → ((k : ℕ) → k < n → ((id == get_or xs k 0) || nat_lt (way id) (way (get_or xs k 0))) ≡ false)
    → put_by way id xs ≡ insert xs n id
put_last way id n xs e h =
    put_behind way id n xs h (omega arith)
    ∙ ap (λ l. take n xs ++ put_by way id l) (drop_all n xs (omega arith))
    ∙ ap (λ l. take n xs ++ id ∷ l) (sym (drop_all n xs (omega arith)))

here : (e l : Bool) (id x : ℕ) (xs ys : List ℕ) → e ≡ true
    → cond e (x ∷ xs) (cond l (id ∷ x ∷ xs) ys) ≡ x ∷ xs
here true l id x xs ys h = refl
here false l id x xs ys h = cc

-- an id that is there stays there
pub put_there : (way : ℕ → ℕ) (id n : ℕ) (xs : List ℕ) → n < length xs
    → (id == get_or xs n 0) ≡ true
    → ((k : ℕ) → k < n → ((id == get_or xs k 0) || nat_lt (way id) (way (get_or xs k 0))) ≡ false)
    → put_by way id xs ≡ xs
put_there way id n xs lt e h =
    put_behind way id n xs h (omega arith)
    ∙ ap (λ l. take n xs ++ put_by way id l) (drop_more xs n 0 lt)
    ∙ ap (λ l. take n xs ++ l) (here (id == get_or xs n 0) (nat_lt (way id) (way (get_or xs n 0))) id
    (get_or xs n 0) (drop (n + 1) xs) (get_or xs n 0 ∷ put_by way id (drop (n + 1) xs)) e)
    ∙ ap (λ l. take n xs ++ l) (sym (drop_more xs n 0 lt))
    ∙ take-append-drop n xs

before : (e l : Bool) (id x : ℕ) (xs ys : List ℕ) → e ≡ false → (e || l) ≡ true
    → cond e (x ∷ xs) (cond l (id ∷ x ∷ xs) ys) ≡ id ∷ x ∷ xs
before true l id x xs ys h g = cc
before false true id x xs ys h g = refl
before false false id x xs ys h g = cc

-- an id that isn't there goes before the first that is behind it
pub put_before : (way : ℕ → ℕ) (id n : ℕ) (xs : List ℕ) → n < length xs
    → (id == get_or xs n 0) ≡ false
    → ((id == get_or xs n 0) || nat_lt (way id) (way (get_or xs n 0))) ≡ true
    → ((k : ℕ) → k < n → ((id == get_or xs k 0) || nat_lt (way id) (way (get_or xs k 0))) ≡ false)
    → put_by way id xs ≡ insert xs n id
put_before way id n xs lt e t h =
    put_behind way id n xs h (omega arith)
    ∙ ap (λ l. take n xs ++ put_by way id l) (drop_more xs n 0 lt)
    ∙ ap (λ l. take n xs ++ l) (before (id == get_or xs n 0) (nat_lt (way id) (way (get_or xs n 0))) id
    (get_or xs n 0) (drop (n + 1) xs) (get_or xs n 0 ∷ put_by way id (drop (n + 1) xs)) e t)
    ∙ ap (λ l. take n xs ++ id ∷ l) (sym (drop_more xs n 0 lt))

at_first : (b : Bool) (l n : ℕ) → b ≡ nat_lt l n → l ≤ n → unwrap_or (cond b (Some l) None) n ≡ l
at_first true l n e le = refl
at_first false l n e le = let over : n ≤ l = ltb-false l n (sym e) in omega arith

-- the first place that passes, or the end
first_place : {X : Type 0} (p : X → Bool) (xs : List X)
    → unwrap_or (position p xs) (length xs) ≡ position_or_len p xs
first_place p xs =
    at_first _ (position_or_len p xs) (length xs) refl (prefix_len-le-length (λ x. not (p x)) xs)

-- the id at a place is that of the node there
pub id_at : (nodes : List NodeId) (k d : ℕ)
    → get_or (ids nodes) k d ≡ (get_or nodes k (record { 0 = d })).0
id_at [] k d = refl
id_at (n ∷ nodes) zero d = refl
id_at (n ∷ nodes) (suc k) d = id_at nodes k d

new_id : (side : Side) (me id : ℕ) (near : List ℕ) → (id == me) ≡ false
    → take MAX_NEIGHBOURS (put_by (way side me) id near) ≡ with_id side me id near
unfolding with_id
new_id side me id near other =
    ap (λ b. cond b near (take MAX_NEIGHBOURS (put_by (way side me) id near))) (sym other)

front_fails : (side : Side) (me id place : ℕ) (nodes : List NodeId)
    → place ≡ position_or_len (λ x. is_place side me id x.0) nodes
    → (k : ℕ) → k < place
    → ((id == get_or (ids nodes) k 0)
    || nat_lt (way side me id) (way side me (get_or (ids nodes) k 0))) ≡ false
unfolding is_place
front_fails side me id place nodes at k lt =
    ap (λ x. (id == x) || nat_lt (way side me id) (way side me x)) (id_at nodes k 0)
    ∙ fails_before_first (λ x. is_place side me id x.0) nodes k (record { 0 = 0 }) (omega arith)

first_passes : (side : Side) (me id place : ℕ) (nodes : List NodeId)
    → place ≡ position_or_len (λ x. is_place side me id x.0) nodes → place < length nodes
    → ((id == get_or (ids nodes) place 0)
    || nat_lt (way side me id) (way side me (get_or (ids nodes) place 0))) ≡ true
unfolding is_place
first_passes side me id place nodes at lt =
    ap (λ x. (id == x) || nat_lt (way side me id) (way side me x)) (id_at nodes place 0)
    ∙ ap (λ k. is_place side me id (get_or nodes k (record { 0 = 0 })).0) at
    ∙ passes_at_first (λ x. is_place side me id x.0) nodes (record { 0 = 0 }) (omega arith)

placed_new : (side : Side) (me id place : ℕ) (nodes : List NodeId)
    → place ≡ position_or_len (λ x. is_place side me id x.0) nodes
    → (place ≡ length nodes) ⊎ ((id == (get_or nodes place (record { 0 = 0 })).0) ≡ false)
    → put_by (way side me) id (ids nodes) ≡ insert (ids nodes) place id
placed_new side me id place nodes at (inl end) =
    put_last (way side me) id place (ids nodes) (simp length-map end)
    (front_fails side me id place nodes at)
placed_new side me id place nodes at (inr differs) = ⊎_elim
    (λ lt. put_before (way side me) id place (ids nodes) (simp length-map lt)
    (ap (λ k. id == k) (id_at nodes place 0) ∙ differs) (first_passes side me id place nodes at lt)
    (front_fails side me id place nodes at))
    (λ (ge : length nodes ≤ place).
    let le : position_or_len (λ x. is_place side me id x.0) nodes ≤ length nodes =
    prefix_len-le-length _ nodes in
    put_last (way side me) id place (ids nodes)
    (simp length-map (let e : place ≡ length nodes = omega arith in e))
    (front_fails side me id place nodes at))
    (cases_lt place (length nodes))

-- the place is one of those there, or the end
pub first_within : (side : Side) (me id place : ℕ) (nodes : List NodeId)
    → place ≡ unwrap_or (position (λ x. is_place side me id x.0) nodes) (length nodes)
    → place ≤ length nodes
first_within side me id place nodes found =
    let le : position_or_len (λ x. is_place side me id x.0) nodes ≤ length nodes =
    prefix_len-le-length _ nodes in
    omega (arith, first_place (λ x. is_place side me id x.0) nodes)

-- an id that is there leaves the nearest as they are
pub with_same : (side : Side) (me id place : ℕ) (nodes : List NodeId)
    → length nodes ≤ MAX_NEIGHBOURS
    → (id == me) ≡ false
    → place ≡ unwrap_or (position (λ x. is_place side me id x.0) nodes) (length nodes)
    → place < length nodes → (id == (get_or nodes place (record { 0 = 0 })).0) ≡ true
    → ids nodes ≡ with_id side me id (ids nodes)
with_same side me id place nodes few other found lt e =
    sym (take_all MAX_NEIGHBOURS (ids nodes) (simp length-map few))
    ∙ ap (take MAX_NEIGHBOURS) (sym (put_there (way side me) id place (ids nodes) (simp length-map lt)
    (ap (λ k. id == k) (id_at nodes place 0) ∙ e)
    (front_fails side me id place nodes (found ∙ first_place _ nodes))))
    ∙ new_id side me id (ids nodes) other

-- an id that isn't there comes to its place
pub with_new : (side : Side) (me id place : ℕ) (nodes : List NodeId)
    → (id == me) ≡ false
    → place ≡ unwrap_or (position (λ x. is_place side me id x.0) nodes) (length nodes)
    → (place ≡ length nodes) ⊎ ((id == (get_or nodes place (record { 0 = 0 })).0) ≡ false)
    → take MAX_NEIGHBOURS (insert (ids nodes) place id) ≡ with_id side me id (ids nodes)
with_new side me id place nodes other found free =
    ap (take MAX_NEIGHBOURS)
    (sym (placed_new side me id place nodes (found ∙ first_place _ nodes) free))
    ∙ new_id side me id (ids nodes) other

-- a test that is the opposite of another
pub is_false : (b : Bool) → true ≡ not b → b ≡ false
is_false true e = cc
is_false false e = refl

pub is_true : (b : Bool) → false ≡ not b → b ≡ true
is_true true e = refl
is_true false e = cc
