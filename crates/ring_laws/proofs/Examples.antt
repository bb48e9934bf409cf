-- A ring of nine peers, which meets what the laws ask.
use Rattle.std.proofs.Common.{◌≡◌, ℕ, ◌^◌, ◌<◌, Bool, true, false, not, ◌&&◌, ◌||◌, ◌==◌, eqb, ltb, IsTrue, List, [], ◌∷◌, refl, ⊎_elim, arith}
use Rattle.std.proofs.lemmas.Bool.Decides.{nat_tests}
use Rattle.std.specs.List.{list_any}
use Rattle.chord_tables.specs.Neighbours.{predecessors_of, successors_of}
use Rattle.chord_tables.specs.Tables.{Tables, alone, merged, removed, owns}
use Rattle.peer_routing.specs.Routes.{known, owning_predecessor, farthest_up_to, nearest_from, next_hop}
use Rattle.ring_laws.specs.Members.{IsAmong, AreMembers, AreExact, IsWalk}
use Rattle.ring_laws.proofs.Joining.{all-merged}

-- ids below 2^128, each once, by a test
abbrev is_ring : List ℕ → Bool
is_ring [] = true
is_ring (x ∷ xs) = ltb x (2 ^ 128) && (not (list_any (λ y. y == x) xs) && is_ring xs)

any-false : (p : ℕ) (xs : List ℕ) → list_any (λ x. x == p) xs ≡ false → ¬ IsAmong p xs
any-false p [] e = λ h. h
any-false p (x ∷ xs) e = ⊎_elim
    (λ (f : p ≡ x). there f (list_any (λ x. x == p) xs) e)
    (λ (i : IsAmong p xs). any-false p xs (skip (list_any (λ x. x == p) xs) e) i)
  where
    there : p ≡ x → (b : Bool) → (eqb x p || b) ≡ false → ⊥
    there f b e = grind (arith, nat_tests)

    skip : (b : Bool) → (eqb x p || b) ≡ false → b ≡ false
    skip b e = grind (arith, nat_tests)

ring-members : (xs : List ℕ) → is_ring xs ≡ true → AreMembers xs
ring-members [] e = tt
ring-members (x ∷ xs) e =
    let p = parts x (list_any (λ y. y == x) xs) (is_ring xs) e in
    (p.0, any-false x xs p.1, ring-members xs p.2)
  where
    parts : (n : ℕ) (a b : Bool) → (ltb n (2 ^ 128) && (not a && b)) ≡ true
        → (n < 2 ^ 128) × (a ≡ false) × (b ≡ true)
    parts n a b e = grind (arith, nat_tests)

abbrev nine : List ℕ
nine = 10 ∷ 20 ∷ 30 ∷ 40 ∷ 50 ∷ 60 ∷ 70 ∷ 80 ∷ 90 ∷ []

-- the tables of a peer that heard of all nine
abbrev tables_of : ℕ → Tables
tables_of p = merged nine (alone p)

nine-members : AreMembers nine
nine-members = ring-members nine refl

nine-exact : AreExact nine tables_of
unfolding merged
nine-exact p a = (refl, all-merged nine p nine-members a)

-- by the farthest that is known twice, and then to the nearest from there on
nine-walk : IsWalk tables_of 65 10 (10 ∷ 40 ∷ 60 ∷ 70 ∷ [])
unfolding merged predecessors_of successors_of owns known owning_predecessor farthest_up_to
    nearest_from next_hop
nine-walk = (refl, (refl, (refl, (refl, refl))))

-- by the predecessor that owns it
nine-walk_back : IsWalk tables_of 85 10 (10 ∷ 90 ∷ [])
unfolding merged predecessors_of successors_of owns known owning_predecessor farthest_up_to
    nearest_from next_hop
nine-walk_back = (refl, (refl, refl))

-- one joins at the peer that owns its id
joiner-members : AreMembers (15 ∷ nine)
joiner-members = ring-members (15 ∷ nine) refl

joiner-owned : IsTrue (owns (tables_of 20) 15)
unfolding merged predecessors_of successors_of owns
joiner-owned = refl

-- one leaves: whoever is next to it gets the next one behind
left-before : (merged (tables_of 20).successors (removed 20 (tables_of 10))).successors
    ≡ 30 ∷ 40 ∷ 50 ∷ []
unfolding merged removed predecessors_of successors_of
left-before = refl

left-behind : (merged (tables_of 20).predecessors (removed 20 (tables_of 30))).predecessors
    ≡ 10 ∷ 90 ∷ 80 ∷ []
unfolding merged removed predecessors_of successors_of
left-behind = refl

left-far : (merged (tables_of 20).predecessors (removed 20 (tables_of 60))).predecessors
    ≡ 50 ∷ 40 ∷ 30 ∷ []
unfolding merged removed predecessors_of successors_of
left-far = refl
