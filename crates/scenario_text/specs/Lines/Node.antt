-- `peer N ID USER` and `client N ID USER`
use Rattle.std.specs.Prelude.{ℕ, ◌-◌, ◌^◌, ◌<◌, ◌≤◌, ◌&&◌, nat_lt, List, [], ◌∷◌, Option, Some}
use Rattle.std.specs.Fmt.{decimal}
use Rattle.text_words.specs.Decimal.{number_of}
use Rattle.text_words.specs.Id.{id_of, id_text}
use Rattle.text_words.specs.Name.{IsName}
use Rattle.text_words.specs.Steps.{◌>>=◌, allowed, part_of, only_of}
use Rattle.request_words.specs.declared.node.TheConstants.{MAX_NUMBER}
use Rattle.request_words.specs.declared.node.DeclaredNode.{DeclaredNode}
use Rattle.request_words.specs.declared.node.Role.{Role}
use Rattle.scenario_text.specs.Lines.Overlay.{name_of}

-- neither all zeros nor all ones (RFC 6940, 6.3.1.1)
unfoldable pub node_id_of : List ℕ → Option ℕ
node_id_of word = do
  id ← id_of word
  fits ← allowed (nat_lt 0 id && nat_lt id (2 ^ 128 - 1))
  Some id

-- the words behind a node's role
abbrev pub node_words : DeclaredNode → List (List ℕ)
node_words node = decimal node.number ∷ id_text node.node.0 ∷ node.user ∷ []

-- the number, the Node-ID and the user name that words say
unfoldable pub node_parts : List (List ℕ) → Option (ℕ × ℕ × List ℕ)
node_parts words = do
  number ← part_of (number_of 1 MAX_NUMBER) words
  id ← part_of node_id_of number.1
  user ← only_of name_of id.1
  Some (number.0, id.0, user)

-- the node of a role that words say
unfoldable pub node_of : Role → List (List ℕ) → Option DeclaredNode
node_of role words = do
  node ← node_parts words
  Some (record { number = node.0; role = role; node = record { 0 = node.1 }; user = node.2 })

-- a node within its limits
pub record IsNode (node : DeclaredNode) : Type 0 where
  pub number : (1 ≤ node.number) × (node.number ≤ MAX_NUMBER)
  pub id : (0 < node.node.0) × (node.node.0 < 2 ^ 128 - 1)
  pub user : IsName node.user
