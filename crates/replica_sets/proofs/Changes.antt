-- What is queued where nothing is new, and where all is.
use Rattle.std.proofs.Common.{◌≡◌, refl, ap, ℕ, ◌==◌, Bool, true, false, not, ◌&&◌, ◌||◌, IsTrue, List, [], ◌∷◌, arith}
use Rattle.std.specs.List.{All, filter, flat_map}
use Rattle.std.proofs.Math.ListN.{get_or}
use Rattle.std.proofs.lemmas.List.Elements.{All-head, All-tail, filter_agree}
use Rattle.std.proofs.lemmas.List.Folds.{list_any_at}
use Rattle.std.proofs.lemmas.Bool.Decides.{nat_tests}
use Rattle.reload_ids.specs.declared.NodeId.{NodeId}
use Rattle.reload_ids.specs.declared.ResourceId.{ResourceId}
use Rattle.replica_sets.specs.declared.range.Range.{Range}
use Rattle.replica_sets.specs.Refills.{owns, is_mirror, is_lacking, to_mirror, refilled_to, refilled}
use Rattle.replica_sets.proofs.Lists.{filter_none}

flat_map_none : {X Y : Type 0} (f : X → List Y) (xs : List X) → All (λ x. f x ≡ []) xs
    → flat_map f xs ≡ []
flat_map_none f [] h = refl
flat_map_none f (x ∷ xs) h =
    rw (All-head (λ y. f y ≡ []) x xs h, flat_map_none f xs (All-tail (λ y. f y ≡ []) x xs h)) refl

flat_map_agree : {X Y : Type 0} (f g : X → List Y) → ((x : X) → f x ≡ g x) → (xs : List X)
    → flat_map f xs ≡ flat_map g xs
flat_map_agree f g same [] = refl
flat_map_agree f g same (x ∷ xs) = rw (same x, flat_map_agree f g same xs) refl

-- a test that implies another
implied : (p q m : Bool) → IsTrue m → (IsTrue p → IsTrue q) → (p && (not m || not q)) ≡ false
implied true true true m h = refl
implied true false true m h = let e : false ≡ true = h refl in cc
implied true q false m h = cc
implied false q m t h = refl

nothing_to : (before after : Range) (held : List ResourceId) (mirror : NodeId)
    → IsTrue (is_mirror before mirror)
    → ((r : ResourceId) → IsTrue (owns after r) → IsTrue (owns before r))
    → refilled_to before after held mirror ≡ []
unfolding refilled_to to_mirror is_lacking
nothing_to before after held mirror was grown =
    let none =
    filter_none
    (λ r. owns after r && (not (is_mirror before mirror) || not (owns before r))) held
    (λ k d lt. implied (owns after _) (owns before _) (is_mirror before mirror) was (grown _)) in
    rw none refl

pub nothing_queued : (before after : Range) (held : List ResourceId)
    → All (λ mirror. IsTrue (is_mirror before mirror)) after.mirrors
    → ((r : ResourceId) → IsTrue (owns after r) → IsTrue (owns before r))
    → refilled before after held ≡ []
unfolding refilled
nothing_queued before after held mirrors grown =
    flat_map_none (refilled_to before after held) after.mirrors
    (λ k d lt. nothing_to before after held _ (mirrors k d lt) grown)

itself : (n : ℕ) → (n == n) ≡ true
itself n = grind (arith, nat_tests)

own_mirrors : (range : Range) → All (λ mirror. IsTrue (is_mirror range mirror)) range.mirrors
unfolding is_mirror
own_mirrors range k d lt =
    list_any_at (λ mirror. mirror.0 == (get_or range.mirrors k d).0) range.mirrors k d lt
    (itself (get_or range.mirrors k d).0)

pub same_queued : (range : Range) (held : List ResourceId) → refilled range range held ≡ []
same_queued range held = nothing_queued range range held (own_mirrors range) (λ r h. h)

no_mirror : (before : Range) (mirror : NodeId) → before.mirrors ≡ []
    → is_mirror before mirror ≡ false
unfolding is_mirror
no_mirror before mirror is = rw is refl

both : (b : Bool) → (b && true) ≡ b
both true = refl
both false = refl

all_to : (before after : Range) (held : List ResourceId) (mirror : NodeId) → before.mirrors ≡ []
    → refilled_to before after held mirror ≡ to_mirror mirror (filter (λ r. owns after r) held)
unfolding refilled_to is_lacking
all_to before after held mirror is =
    ap (to_mirror mirror)
    (filter_agree (λ r. owns after r && (not (is_mirror before mirror) || not (owns before r)))
    (λ r. owns after r)
    (λ r. rw (no_mirror before mirror is) (both (owns after r))) held)

pub all_queued : (before after : Range) (held : List ResourceId) → before.mirrors ≡ []
    → refilled before after held
    ≡ flat_map (λ mirror. to_mirror mirror (filter (λ r. owns after r) held)) after.mirrors
unfolding refilled
all_queued before after held is =
    flat_map_agree (refilled_to before after held)
    (λ mirror. to_mirror mirror (filter (λ r. owns after r) held))
    (λ mirror. all_to before after held mirror is) after.mirrors
