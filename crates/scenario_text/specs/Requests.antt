-- What each request begins with: the client that asks, the peer that it asks, and the resource.
use Rattle.std.specs.Prelude.{ℕ, ◌-◌, ◌^◌, ◌≤◌, List, [], ◌∷◌, Option, Some}
use Rattle.std.specs.Fmt.{decimal}
use Rattle.text_words.specs.Decimal.{decimal_of}
use Rattle.text_words.specs.Steps.{◌>>=◌, part_of}
use Rattle.scenario_text.specs.declared.request.Address.{Address}
use Rattle.request_words.specs.Resources.{resource_of, resource_text, IsResource}

-- the words `C P RES`, and those behind them
abbrev pub address_words : Address → List (List ℕ) → List (List ℕ)
address_words address words =
    decimal address.client ∷ decimal address.peer ∷ resource_text address.resource ∷ words

-- the client, the peer and the resource that words say, and the words behind them
unfoldable pub address_of : List (List ℕ) → Option (Address × List (List ℕ))
address_of words = do
  client ← part_of (decimal_of (2 ^ 32 - 1)) words
  peer ← part_of (decimal_of (2 ^ 32 - 1)) client.1
  resource ← part_of resource_of peer.1
  Some (record { client = client.0; peer = peer.0; resource = resource.0 }, resource.1)

-- numbers and a resource within their limits
pub record IsAddress (address : Address) : Type 0 where
  pub client : address.client ≤ 2 ^ 32 - 1
  pub peer : address.peer ≤ 2 ^ 32 - 1
  pub resource : IsResource address.resource
