-- The nearest on a side, one node at a time, are the nearest.
use Rattle.std.proofs.Common.{◌≡◌, ℕ, Bool, true, false, cond, List, [], ◌∷◌, ◌++◌, take, refl, ap, sym, ◌∙◌, append_assoc, append-nil}
use Rattle.std.specs.Prelude.{◌==◌, not, zero, suc, nat_lt}
use Rattle.reload_ids.specs.declared.NodeId.{NodeId}
use Rattle.chord_tables.specs.declared.TheConstants.{MAX_NEIGHBOURS}
use Rattle.chord_tables.specs.declared.side.Side.{Side}
use Rattle.chord_tables.specs.declared.side.Side.TheVariants.{Before, Behind}
use Rattle.chord_tables.specs.Neighbours.{put_by, by_way, without, predecessors_of, successors_of}
use Rattle.chord_tables.specs.Sides.{way, nearest, with_id, gathered}
use Rattle.chord_tables.specs.Tables.{ids}

-- the last of further nodes comes first
pub gathered_last : (side : Side) (me : ℕ) (nodes : List NodeId) (node : NodeId) (near : List ℕ)
    → gathered side me (ids (nodes ++ node ∷ [])) near
    ≡ gathered side me (ids nodes) (with_id side me node.0 near)
gathered_last side me [] node near = refl
gathered_last side me (x ∷ nodes) node near =
    ap (with_id side me x.0) (gathered_last side me nodes node near)

take_none : (i : ℕ) → take {A = ℕ} i [] ≡ []
take_none zero = refl
take_none (suc i) = refl

take_twice : (n : ℕ) (xs : List ℕ) → take n (take n xs) ≡ take n xs
take_twice zero xs = refl
take_twice (suc n) [] = refl
take_twice (suc n) (x ∷ xs) = ap (λ l. x ∷ l) (take_twice n xs)

take_step : (n : ℕ) (id x : ℕ) (e l : Bool) (xs ys zs : List ℕ) → take n ys ≡ take n zs
    → take (suc n) (cond e (x ∷ xs) (cond l (id ∷ x ∷ xs) (x ∷ ys)))
    ≡ take (suc n) (cond e (x ∷ take n xs) (cond l (id ∷ x ∷ take n xs) (x ∷ zs)))
take_step n id x true l xs ys zs h = ap (λ k. x ∷ k) (sym (take_twice n xs))
take_step zero id x false true xs ys zs h = refl
take_step (suc n) id x false true xs ys zs h = ap (λ k. id ∷ x ∷ k) (shorter n xs)
  where
    shorter : (n : ℕ) (xs : List ℕ) → take n xs ≡ take n (take (suc n) xs)
    shorter zero xs = refl
    shorter (suc n) [] = refl
    shorter (suc n) (x ∷ xs) = ap (λ k. x ∷ k) (shorter n xs)
take_step n id x false false xs ys zs h = ap (λ k. x ∷ k) h

-- the first so many, with one more id, are had from the first so many
pub take_put : (way : ℕ → ℕ) (id n : ℕ) (xs : List ℕ)
    → take n (put_by way id xs) ≡ take n (put_by way id (take n xs))
take_put way id zero xs = refl
take_put way id (suc n) [] = refl
take_put way id (suc n) (x ∷ xs) =
    take_step n id x (id == x) (nat_lt (way id) (way x)) xs _ _ (take_put way id n xs)

one_more : (b : Bool) (side : Side) (me id : ℕ) (zs : List ℕ)
    → cond b (take MAX_NEIGHBOURS (by_way (way side me) zs))
    (take MAX_NEIGHBOURS (put_by (way side me) id (take MAX_NEIGHBOURS (by_way (way side me) zs))))
    ≡ take MAX_NEIGHBOURS (by_way (way side me) (cond (not b) (id ∷ zs) zs))
one_more true side me id zs = refl
one_more false side me id zs =
    sym (take_put (way side me) id MAX_NEIGHBOURS (by_way (way side me) zs))

with_nearest : (side : Side) (me id : ℕ) (xs : List ℕ)
    → with_id side me id (nearest side me xs) ≡ nearest side me (id ∷ xs)
unfolding with_id nearest
with_nearest side me id xs = one_more (id == me) side me id (without me xs)

gathered_nearest : (side : Side) (me : ℕ) (xs ys : List ℕ)
    → gathered side me xs (nearest side me ys) ≡ nearest side me (xs ++ ys)
gathered_nearest side me [] ys = refl
gathered_nearest side me (x ∷ xs) ys =
    ap (with_id side me x) (gathered_nearest side me xs ys) ∙ with_nearest side me x (xs ++ ys)

none_nearest : (side : Side) (me : ℕ) → [] ≡ nearest side me []
unfolding nearest
none_nearest side me = refl

-- three lists, from the last on
pub gathered_all : (side : Side) (me : ℕ) (xs ys zs : List ℕ)
    → gathered side me xs (gathered side me ys (gathered side me zs []))
    ≡ nearest side me (xs ++ ys ++ zs)
gathered_all side me xs ys zs =
    ap (λ l. gathered side me xs (gathered side me ys (gathered side me zs l)))
    (none_nearest side me)
    ∙ ap (λ l. gathered side me xs (gathered side me ys l)) (gathered_nearest side me zs [])
    ∙ ap (λ l. gathered side me xs (gathered side me ys (nearest side me l))) (append-nil zs)
    ∙ ap (gathered side me xs) (gathered_nearest side me ys zs)
    ∙ gathered_nearest side me xs (ys ++ zs)
    ∙ ap (nearest side me) (sym (append_assoc xs ys zs))

-- the nearest before a node, and behind it
pub nearest_before : (me : ℕ) (xs : List ℕ) → nearest Before me xs ≡ predecessors_of me xs
unfolding nearest predecessors_of
nearest_before me xs = refl

pub nearest_behind : (me : ℕ) (xs : List ℕ) → nearest Behind me xs ≡ successors_of me xs
unfolding nearest successors_of
nearest_behind me xs = refl

pub ruleset nearest_sides = (nearest_before, nearest_behind)
