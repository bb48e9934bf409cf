-- Leading entries of a node itself, one at a time.
use Rattle.std.proofs.Common.{◌≡◌, ℕ, ◌==◌, true, false, List, [], ◌∷◌, length, refl, sym, ◌∙◌, arith}
use Rattle.std.specs.List.{IsFirstAndRest}
use Rattle.std.proofs.lemmas.Bool.Decides.{nat_tests}
use Rattle.forwarding_header.specs.declared.destination.Destination.{Destination}
use Rattle.node_model.specs.Ways.{is_node}
use Rattle.node_model.specs.Courses.{without_own}

is-zero : (n : ℕ) → (n == 0) ≡ true → n ≡ 0
is-zero n e = grind (arith, nat_tests, e)

-- nothing is taken off an empty list
pub without-none : (me : ℕ) (ds : List Destination) → length ds ≡ 0 → without_own me ds ≡ ds
unfolding without_own
without-none me [] e = refl
without-none me (d ∷ ds) e = absurd (omega (arith, e))

-- the last entry stays
pub without-last : (me : ℕ) (d : Destination) (rest ds : List Destination) → ds ≡ d ∷ rest
    → (length rest == 0) ≡ true → without_own me ds ≡ ds
unfolding without_own
without-last me d [] ds e last = rw e refl
without-last me d (next ∷ rest) ds e last =
    absurd (omega (arith, is-zero (length (next ∷ rest)) last))

-- an entry of another node stays, and all behind it
pub without-other : (me : ℕ) (d : Destination) (rest ds : List Destination) → ds ≡ d ∷ rest
    → is_node me d ≡ false → without_own me ds ≡ ds
unfolding without_own
without-other me d [] ds e other = rw e refl
without-other me d (next ∷ rest) ds e other = rw (e, other) refl

-- an own entry before others is taken off
pub without-own : (me : ℕ) (d : Destination) (rest ds : List Destination) → ds ≡ d ∷ rest
    → (length rest == 0) ≡ false → is_node me d ≡ true → without_own me ds ≡ without_own me rest
unfolding without_own
without-own me d [] ds e more own = absurd cc
without-own me d (next ∷ rest) ds e more own = rw (e, own) refl

pub ruleset without_steps = (without-none, without-last, without-other, without-own)

-- a list that begins with an entry of another node is what is left
pub left_is : (me : ℕ) (d : Destination) (rest ds all : List Destination) → IsFirstAndRest ds d rest
    → is_node me d ≡ false → without_own me ds ≡ without_own me all → ds ≡ without_own me all
left_is me d rest ds all first other same = sym (without-other me d rest ds first.0 other) ∙ same
