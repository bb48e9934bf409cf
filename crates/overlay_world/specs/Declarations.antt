-- The nodes that are declared.
use Rattle.std.specs.Prelude.{ℕ, ◌≤◌, List, All}
use Rattle.std.specs.Ordering.{nat_cmp}
use Rattle.std.specs.FinMap.{FinMap, insert}
use Rattle.std.specs.Option.{option_map_or}
use Rattle.data_models.specs.declared.config.Config.{Config}
use Rattle.security_block.specs.Signers.{IsNamed}
use Rattle.request_words.specs.declared.node.DeclaredNode.{DeclaredNode}
use Rattle.node_links.specs.declared.limits.TheConstants.{MAX_NUMBER}
use Rattle.run_model.specs.Worlds.{Actor, about_of, actor_of}

-- a node's user has a name, and its number is no greater than a number may be
abbrev pub IsDeclared : DeclaredNode → Type 0
IsDeclared n = IsNamed (about_of n) × (n.number ≤ MAX_NUMBER)

-- each of some nodes
abbrev pub AreDeclared : List DeclaredNode → Type 0
AreDeclared names = All IsDeclared names

-- nodes by number, with a declared one, if it does something itself
unfoldable pub with_declared : Config → List ℕ → DeclaredNode → FinMap nat_cmp Actor
    → FinMap nat_cmp Actor
with_declared config ids n actors =
    option_map_or (insert actors n.number) (actor_of config ids n n.role) actors
