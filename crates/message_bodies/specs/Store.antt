-- Store: values of some kinds, for a resource or for one of its replicas (RFC 6940, 7.4.1.1).
use Rattle.std.specs.Prelude.{ℕ, ◌<◌, ◌^◌, List, [], ◌∷◌, length, All}
use Rattle.std.specs.List.{flat_map}
use Rattle.reload_ids.specs.declared.ResourceId.{ResourceId}
use Rattle.wire_core.specs.Spelling.{number, vector, joined}
use Rattle.wire_core.specs.Ids.{resource_id, resource_id_at, IsResourceIdInRange}
use Rattle.wire_core.specs.Reading.{Reader, ◌>>=◌, done, number_at, vector_at, list_at}
use Rattle.data_models.specs.declared.config.Config.{Config}
use Rattle.data_models.specs.declared.fetched.StoreKind.{StoreKind}
use Rattle.data_models.specs.StoreKinds.{store_kind, store_kind_at, IsSpelledStoreKind, IsStoreKindInRange, IsStoreKindOf}
use Rattle.message_bodies.specs.declared.body.Body.{Body}
use Rattle.message_bodies.specs.declared.body.Body.TheVariants.{Store}

-- the kinds of a list, one after the other
abbrev pub store_kinds : List StoreKind → List ℕ
store_kinds kinds = flat_map store_kind kinds

-- a Store's body
unfoldable pub store : ResourceId → ℕ → List StoreKind → List ℕ
store resource replica kinds = joined (resource_id resource ∷ number 1 replica ∷ vector 4
    (store_kinds kinds) ∷ [])

-- Each kind has a spelling, and all of them have fewer than 2^32 bytes.
pub record IsSpelledKinds (kinds : List StoreKind) : Type 0 where
  pub each : All IsSpelledStoreKind kinds
  pub fits : length (store_kinds kinds) < 2 ^ 32

-- each number fits its field
pub record IsStoreInRange (r : ResourceId) (n : ℕ) (ks : List StoreKind) : Type 0 where
  pub resource : IsResourceIdInRange r
  pub replica : n < 2 ^ 8
  pub kinds : All IsStoreKindInRange ks

-- a Store's body, by the models that a configuration gives its kinds
unfoldable pub store_at : Config → Reader Body
store_at config = do
  resource ← resource_id_at
  replica ← number_at 1
  kinds ← vector_at 4 (list_at (store_kind_at config))
  done (Store resource replica kinds)
