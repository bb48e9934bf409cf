-- The best of peers, part by part.
use Rattle.std.proofs.Common.{◌≡◌, ℕ, List, [], ◌∷◌, ◌++◌, refl, ap}
use Rattle.std.specs.Prelude.{Option, Some, None}
use Rattle.reload_ids.specs.declared.NodeId.{NodeId}
use Rattle.chord_tables.specs.Tables.{ids}
use Rattle.peer_routing.specs.Best.{pointed, farther, nearer, farthest_with, nearest_with}

pub far_last : (me k : ℕ) (xs : List ℕ) (x : ℕ) (best : Option ℕ)
    → farthest_with me k (xs ++ x ∷ []) best ≡ farthest_with me k xs (farther me k best x)
far_last me k [] x best = refl
far_last me k (y ∷ xs) x best = ap (λ b. farther me k b y) (far_last me k xs x best)

pub near_last : (k : ℕ) (xs : List ℕ) (x : ℕ) (best : Option ℕ)
    → nearest_with k (xs ++ x ∷ []) best ≡ nearest_with k xs (nearer k best x)
near_last k [] x best = refl
near_last k (y ∷ xs) x best = ap (λ b. nearer k b y) (near_last k xs x best)

pub far_append : (me k : ℕ) (xs ys : List ℕ) (best : Option ℕ)
    → farthest_with me k xs (farthest_with me k ys best) ≡ farthest_with me k (xs ++ ys) best
far_append me k [] ys best = refl
far_append me k (x ∷ xs) ys best = ap (λ b. farther me k b x) (far_append me k xs ys best)

pub near_append : (k : ℕ) (xs ys : List ℕ) (best : Option ℕ)
    → nearest_with k xs (nearest_with k ys best) ≡ nearest_with k (xs ++ ys) best
near_append k [] ys best = refl
near_append k (x ∷ xs) ys best = ap (λ b. nearer k b x) (near_append k xs ys best)

-- what the last of nodes, and of fingers, adds to the ids
pub ids_last : (nodes : List NodeId) (n : NodeId) → ids (nodes ++ n ∷ []) ≡ ids nodes ++ n.0 ∷ []
ids_last [] n = refl
ids_last (m ∷ nodes) n = ap (λ l. m.0 ∷ l) (ids_last nodes n)

pub pointed_last : (fingers : List (Option NodeId)) (n : NodeId)
    → pointed (fingers ++ Some n ∷ []) ≡ pointed fingers ++ n.0 ∷ []
pointed_last [] n = refl
pointed_last (None ∷ fingers) n = pointed_last fingers n
pointed_last (Some m ∷ fingers) n = ap (λ l. m.0 ∷ l) (pointed_last fingers n)

pub pointed_none : (fingers : List (Option NodeId))
    → pointed (fingers ++ None ∷ []) ≡ pointed fingers
pointed_none [] = refl
pointed_none (None ∷ fingers) = pointed_none fingers
pointed_none (Some m ∷ fingers) = ap (λ l. m.0 ∷ l) (pointed_none fingers)
