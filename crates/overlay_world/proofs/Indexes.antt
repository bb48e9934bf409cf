-- What the indexes of names find.
use Rattle.std.proofs.Common.{◌≡◌, ℕ, ◌==◌, Bool, true, false, cond, List, [], ◌∷◌, refl, ap, ◌∙◌}
use Rattle.std.specs.Prelude.{Option, Some, None, find, unwrap_or}
use Rattle.std.specs.Option.{option_map, option_map_or}
use Rattle.std.specs.Ordering.{nat_cmp, eq_by_cmp}
use Rattle.std.specs.Cmp.{nat_cmp_total, eq_by_cmp_equiv, unsigned_tied}
use Rattle.std.specs.FinMap.{get, empty, get-empty, get-insert}
use Rattle.request_words.specs.declared.node.DeclaredNode.{DeclaredNode}
use Rattle.run_model.specs.Worlds.{number_of, node_of}
use Rattle.overlay_world.specs.Indexes.{with_number, with_node, numbers_in, nodes_in}
use Rattle.overlay_world.proofs.Folds.{folded}

pub numbers_folded : (names : List DeclaredNode) → folded with_number names empty ≡ numbers_in names
unfolding numbers_in
numbers_folded [] = refl
numbers_folded (n ∷ ns) = ap (with_number n) (numbers_folded ns)

pub nodes_folded : (names : List DeclaredNode) → folded with_node names empty ≡ nodes_in names
unfolding nodes_in
nodes_folded [] = refl
nodes_folded (n ∷ ns) = ap (with_node n) (nodes_folded ns)

-- what the first of two names has
chosen : {A B : Type 0} (f : A → B) (s t : Bool) (x : A) (o : Option A) → s ≡ t → cond s (Some (f x)) (option_map f o) ≡ option_map f (cond t (Some x) o)
chosen f true true x o e = refl
chosen f false false x o e = refl
chosen f true false x o e = absurd (cc)
chosen f false true x o e = absurd (cc)

same_key : (a b : ℕ) → eq_by_cmp nat_cmp a b ≡ (b == a)
same_key a b = (eq_by_cmp_equiv nat_cmp_total).symm a b ∙ unsigned_tied b a

numbers_found : (names : List DeclaredNode) (id : ℕ) → get (numbers_in names) id ≡ option_map (λ (n : DeclaredNode). n.number) (find (λ (n : DeclaredNode). n.node.0 == id) names)
unfolding numbers_in
numbers_found [] id = get-empty nat_cmp id
numbers_found (n ∷ ns) id =
    get-insert nat_cmp_total (numbers_in ns) n.node.0 n.number id
    ∙ ap (cond (eq_by_cmp nat_cmp id n.node.0) (Some n.number)) (numbers_found ns id)
    ∙ chosen (λ (n : DeclaredNode). n.number) (eq_by_cmp nat_cmp id n.node.0) (n.node.0 == id) n (find (λ (n : DeclaredNode). n.node.0 == id) ns) (same_key id n.node.0)

nodes_found : (names : List DeclaredNode) (number : ℕ) → get (nodes_in names) number ≡ option_map (λ (n : DeclaredNode). n.node) (find (λ (n : DeclaredNode). n.number == number) names)
unfolding nodes_in
nodes_found [] number = get-empty nat_cmp number
nodes_found (n ∷ ns) number =
    get-insert nat_cmp_total (nodes_in ns) n.number n.node number
    ∙ ap (cond (eq_by_cmp nat_cmp number n.number) (Some n.node)) (nodes_found ns number)
    ∙ chosen (λ (n : DeclaredNode). n.node) (eq_by_cmp nat_cmp number n.number) (n.number == number) n (find (λ (n : DeclaredNode). n.number == number) ns) (same_key number n.number)

or_none : {A : Type 0} (f : A → ℕ) (o : Option A) → unwrap_or (option_map f o) 0 ≡ option_map_or f o 0
or_none f None = refl
or_none f (Some x) = refl

pub number_found : (names : List DeclaredNode) (id : ℕ) → unwrap_or (get (numbers_in names) id) 0 ≡ number_of names id
unfolding number_of
number_found names id =
    ap (λ (o : Option ℕ). unwrap_or o 0) (numbers_found names id)
    ∙ or_none (λ (n : DeclaredNode). n.number) (find (λ (n : DeclaredNode). n.node.0 == id) names)

pub node_found : (names : List DeclaredNode) (number : ℕ) → get (nodes_in names) number ≡ node_of names number
unfolding node_of
node_found names number = nodes_found names number
