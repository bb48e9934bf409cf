-- A node is near another on the one side exactly where that one is near it on the other side.
use Rattle.std.proofs.Common.{◌≡◌, ◌≢◌, ℕ, ◌^◌, ◌<◌, List, [], ◌∷◌, refl, sym, ◌∙◌, arith}
use Rattle.reload_ids.specs.Ring.{distance}
use Rattle.chord_tables.specs.Neighbours.{predecessors_of, successors_of, without}
use Rattle.ring_laws.specs.Members.{IsAmong, AreMembers}
use Rattle.ring_laws.proofs.Lists.{member-small}
use Rattle.ring_laws.proofs.Counts.{count_below, count-without}
use Rattle.ring_laws.proofs.Near.{near-few, near-from_few}
use Rattle.ring_laws.proofs.Ways.{one_between}
use Rattle.ring_laws.proofs.Owners.{tells_after, tells_before}

-- as many lie between two nodes, seen from either
between_same : (p j : ℕ) (xs : List ℕ) → p < 2 ^ 128 → j < 2 ^ 128 → AreMembers xs → p ≢ j
    → count_below (λ m. distance p m) (distance p j) (without p xs) ≡ count_below
    (λ m. distance m j) (distance p j) (without j xs)
between_same p j [] lp lj d n = refl
between_same p j (x ∷ xs) lp lj d n =
    count-without (λ m. distance p m) (distance p j) p x xs
    ∙ one_between p j x _ _ lp lj d.0 n (between_same p j xs lp lj d.2 n)
    ∙ sym (count-without (λ m. distance m j) (distance p j) j x xs)

module _ (p j : ℕ) (xs : List ℕ) (d : AreMembers xs) (hp : IsAmong p xs) (hj : IsAmong j xs)
    (n : p ≢ j) where
  lp : p < 2 ^ 128
  lp = member-small p xs d hp

  lj : j < 2 ^ 128
  lj = member-small j xs d hj

  pub successor-predecessor : IsAmong j (successors_of p xs) → IsAmong p (predecessors_of j xs)
  unfolding successors_of predecessors_of
  successor-predecessor h =
      let few = near-few (λ m. distance p m) p j xs (tells_after p xs lp d) d h in
      let e = between_same p j xs lp lj d n in
      near-from_few (λ m. distance m j) j p xs (tells_before j xs lj d) d hp n (omega arith)

  pub predecessor-successor : IsAmong p (predecessors_of j xs) → IsAmong j (successors_of p xs)
  unfolding successors_of predecessors_of
  predecessor-successor h =
      let few = near-few (λ m. distance m j) j p xs (tells_before j xs lj d) d h in
      let e = between_same p j xs lp lj d n in
      near-from_few (λ m. distance p m) p j xs (tells_after p xs lp d) d hj (λ f. n (sym f))
      (omega arith)
