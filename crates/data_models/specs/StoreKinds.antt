-- The values of a kind in a Store or the answer to a Fetch (RFC 6940, 7.4.1.1 and 7.4.2.2).
use Rattle.std.specs.Prelude.{ℕ, ◌<◌, ◌^◌, List, [], ◌∷◌, length, Option, Some, None, All}
use Rattle.std.specs.List.{flat_map}
use Rattle.wire_core.specs.Spelling.{AreBytes, number, vector, joined}
use Rattle.wire_core.specs.Reading.{Reader, ◌>>=◌, done, rest_at, number_at, vector_at, list_at}
use Rattle.data_models.specs.declared.config.DataModel.{DataModel}
use Rattle.data_models.specs.declared.config.Config.{Config}
use Rattle.data_models.specs.declared.fetched.KindValues.{KindValues}
use Rattle.data_models.specs.declared.fetched.KindValues.TheVariants.{Known, Raw}
use Rattle.data_models.specs.declared.fetched.StoreKind.{StoreKind}
use Rattle.data_models.specs.Configs.{model_in}
use Rattle.data_models.specs.Stored.{stored, stored_at, IsSpelledStored, IsStoredInRange, IsStoredOf}

-- the bytes of values, one after the other
unfoldable pub values : KindValues → List ℕ
values (Known list) = flat_map stored list
values (Raw bytes) = bytes

-- the bytes of a kind with its values
unfoldable pub store_kind : StoreKind → List ℕ
store_kind v = joined (number 4 v.kind ∷ number 8 v.generation ∷ vector 4 (values v.values) ∷ [])

-- Each value has a spelling.
abbrev pub AreSpelledValues : KindValues → Type 0
AreSpelledValues (Known list) = All IsSpelledStored list
AreSpelledValues (Raw bytes) = Unit {0}

-- Its values have a spelling, and their length fits its field.
pub record IsSpelledStoreKind (v : StoreKind) : Type 0 where
  pub each : AreSpelledValues v.values
  pub fits : length (values v.values) < 2 ^ 32

-- each number fits its field
abbrev pub AreValuesInRange : KindValues → Type 0
AreValuesInRange (Known list) = All IsStoredInRange list
AreValuesInRange (Raw bytes) = AreBytes bytes

-- each number fits its field
pub record IsStoreKindInRange (v : StoreKind) : Type 0 where
  pub kind : v.kind < 2 ^ 32
  pub generation : v.generation < 2 ^ 64
  pub values : AreValuesInRange v.values

-- Values of a kind with a model have its keys; those of a kind without a definition are any bytes.
abbrev pub AreValuesOf : Option DataModel → KindValues → Type 0
AreValuesOf (Some model) (Known list) = All (IsStoredOf model) list
AreValuesOf (Some model) (Raw bytes) = ⊥
AreValuesOf None (Known list) = ⊥
AreValuesOf None (Raw bytes) = Unit {0}

-- its values are those of its kind in this configuration
abbrev pub IsStoreKindOf : Config → StoreKind → Type 0
IsStoreKindOf config v = AreValuesOf (model_in config v.kind) v.values

-- the values that fill a part, of a kind with this model, or without a definition
unfoldable pub values_at : Option DataModel → Reader KindValues
values_at (Some model) = do
  list ← list_at (stored_at model)
  done (Known list)
values_at None = do
  bytes ← rest_at
  done (Raw bytes)

-- a kind with its values, under a configuration
unfoldable pub store_kind_at : Config → Reader StoreKind
store_kind_at config = do
  kind ← number_at 4
  generation ← number_at 8
  vs ← vector_at 4 (values_at (model_in config kind))
  done (record { kind = kind; generation = generation; values = vs })
