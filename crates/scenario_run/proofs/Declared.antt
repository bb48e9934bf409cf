-- The nodes of a scenario: within their limits, and apart.
use Rattle.std.proofs.Common.{◌≡◌, ◌≢◌, ℕ, List, [], ◌∷◌, true, eqb, not, ap, sym, subst, ◌∙◌, arith}
use Rattle.std.specs.List.{flat_map, AllByRecursion}
use Rattle.std.proofs.lemmas.Bool.{and_parts, eq-eqb}
use Rattle.std.proofs.lemmas.List.Elements.{All-nil, All-cons}
use Rattle.request_words.specs.declared.node.DeclaredNode.{DeclaredNode}
use Rattle.scenario_text.specs.declared.scenario.Scenario.{Scenario}
use Rattle.scenario_text.specs.declared.saying.Declaration.{Declaration}
use Rattle.scenario_text.specs.declared.saying.Declaration.TheVariants.{Kind, Node}
use Rattle.scenario_text.specs.Sayings.{IsDeclaration}
use Rattle.scenario_text.specs.Lines.Node.{IsNode}
use Rattle.scenario_text.specs.Declaring.{are_apart}
use Rattle.scenario_text.specs.Scenarios.{node_in, IsScenario, AreApart}
use Rattle.run_model.specs.Worlds as model
use Rattle.overlay_world.specs.Declarations.{IsDeclared, AreDeclared}

-- ---- each node is within its limits

abbrev AreNodes : List DeclaredNode → Type 0
AreNodes nodes = AllByRecursion IsNode nodes

declared_nodes : (declared : List Declaration) → AllByRecursion IsDeclaration declared → AreNodes (flat_map node_in declared)
declared_nodes [] each = tt
declared_nodes (Kind kind ∷ declared) each = declared_nodes declared each.1
declared_nodes (Node node ∷ declared) each = (each.0.1, declared_nodes declared each.1)

are_nodes : (s : Scenario) → IsScenario s → AreNodes s.nodes
are_nodes s is = subst AreNodes (sym is.begun.declared.nodes) (declared_nodes is.begun.declared.declared is.begun.declared.each)

all_declared : (nodes : List DeclaredNode) → AreNodes nodes → AreDeclared nodes
all_declared [] all = All-nil IsDeclared
all_declared (n ∷ nodes) all = All-cons IsDeclared n nodes ((all.0.user.0, all.0.user.1), all.0.number.1) (all_declared nodes all.1)

pub are_declared : (s : Scenario) → IsScenario s → AreDeclared s.nodes
are_declared s is = all_declared s.nodes (are_nodes s is)

-- ---- no two are one

differ : (a b : ℕ) → not (eqb a b) ≡ true → b ≢ a
differ a b e same = let one : eqb a b ≡ true = eq-eqb a b (sym same) in let no : not true ≡ true = sym (ap not one) ∙ e in absurd cc

apart_of : (n o : DeclaredNode) → are_apart n o ≡ true → (o.number ≢ n.number) × (o.node.0 ≢ n.node.0)
unfolding are_apart
apart_of n o e =
    let each = and_parts (not (eqb n.number o.number)) (not (eqb n.node.0 o.node.0)) e in
    (differ n.number o.number each.0, differ n.node.0 o.node.0 each.1)

all_apart_of : (n : DeclaredNode) (nodes : List DeclaredNode) → AllByRecursion (λ o. are_apart n o ≡ true) nodes → AllByRecursion (λ (o : DeclaredNode). (o.number ≢ n.number) × (o.node.0 ≢ n.node.0)) nodes
all_apart_of n [] all = tt
all_apart_of n (o ∷ nodes) all = (apart_of n o all.0, all_apart_of n nodes all.1)

nodes_apart : (nodes : List DeclaredNode) → AreNodes nodes → AreApart nodes → model.AreApart nodes
nodes_apart [] all apart = tt
nodes_apart (n ∷ nodes) all apart = (omega (arith, all.0.id.1), all_apart_of n nodes apart.0, nodes_apart nodes all.1 apart.1)

pub are_apart_in : (s : Scenario) → IsScenario s → model.AreApart s.nodes
are_apart_in s is = nodes_apart s.nodes (are_nodes s is) is.begun.apart
