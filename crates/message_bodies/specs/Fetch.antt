-- Fetch: which values of which kinds are wanted of a resource (RFC 6940, 7.4.2.1).
use Rattle.std.specs.Prelude.{ℕ, ◌<◌, ◌^◌, List, [], ◌∷◌, length, All}
use Rattle.std.specs.List.{flat_map}
use Rattle.reload_ids.specs.declared.ResourceId.{ResourceId}
use Rattle.wire_core.specs.Spelling.{vector, joined}
use Rattle.wire_core.specs.Ids.{resource_id, resource_id_at, IsResourceIdInRange}
use Rattle.wire_core.specs.Reading.{Reader, ◌>>=◌, done, vector_at, list_at}
use Rattle.data_models.specs.declared.config.Config.{Config}
use Rattle.data_models.specs.declared.fetched.Specifier.{Specifier}
use Rattle.data_models.specs.Specifiers.{specifier, specifier_at, IsSpelledSpecifier, IsSpecifierInRange, IsSpecifierOf}
use Rattle.message_bodies.specs.declared.body.Body.{Body}
use Rattle.message_bodies.specs.declared.body.Body.TheVariants.{Fetch}

-- the specifiers of a list, one after the other
abbrev pub specifiers : List Specifier → List ℕ
specifiers ss = flat_map specifier ss

-- a Fetch's body
unfoldable pub fetch : ResourceId → List Specifier → List ℕ
fetch resource ss = joined (resource_id resource ∷ vector 2 (specifiers ss) ∷ [])

-- Each specifier has a spelling, and all of them have at most 65,535 bytes.
pub record IsSpelledFetch (ss : List Specifier) : Type 0 where
  pub each : All IsSpelledSpecifier ss
  pub fits : length (specifiers ss) < 2 ^ 16

-- each number fits its field
pub record IsFetchInRange (r : ResourceId) (ss : List Specifier) : Type 0 where
  pub resource : IsResourceIdInRange r
  pub specifiers : All IsSpecifierInRange ss

-- a Fetch's body, by the models that a configuration gives its kinds
unfoldable pub fetch_at : Config → Reader Body
fetch_at config = do
  resource ← resource_id_at
  ss ← vector_at 2 (list_at (specifier_at config))
  done (Fetch resource ss)
