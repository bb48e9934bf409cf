-- Which values of a kind a Fetch asks for (RFC 6940, 7.4.2.1).
use Rattle.std.specs.Prelude.{◌≡◌, ℕ, ◌<◌, ◌^◌, List, [], ◌∷◌, ◌++◌, length, Option, Some, None, All}
use Rattle.std.specs.List.{flat_map}
use Rattle.wire_core.specs.Spelling.{AreBytes, number, vector, joined}
use Rattle.wire_core.specs.Reading.{Reader, ◌>>=◌, done, rest_at, number_at, pair_at, vector_at, list_at}
use Rattle.data_models.specs.declared.config.DataModel.{DataModel}
use Rattle.data_models.specs.declared.config.DataModel.TheVariants.{Single, Array, Dictionary}
use Rattle.data_models.specs.declared.config.Config.{Config}
use Rattle.data_models.specs.declared.fetched.Selector.{Selector}
use Rattle.data_models.specs.declared.fetched.Selector.TheVariants.{Whole, Ranges, Names, Raw}
use Rattle.data_models.specs.declared.fetched.Specifier.{Specifier}
use Rattle.data_models.specs.Configs.{model_in}

-- the bytes of ranges, each its first and its last index
abbrev pub ranges : List (ℕ × ℕ) → List ℕ
ranges list = flat_map (λ range. number 4 range.0 ++ number 4 range.1) list

-- the bytes of keys
abbrev pub names : List (List ℕ) → List ℕ
names list = flat_map (vector 2) list

-- the bytes of a selector: nothing for a single kind, ranges for an array, keys for a dictionary
unfoldable pub selector : Selector → List ℕ
selector Whole = []
selector (Ranges list) = vector 2 (ranges list)
selector (Names list) = vector 2 (names list)
selector (Raw bytes) = bytes

-- the bytes of a specifier
unfoldable pub specifier : Specifier → List ℕ
specifier v = joined (number 4 v.kind ∷ number 8 v.generation ∷ vector 2 (selector v.selector) ∷ [])

-- Each length fits its field.
abbrev pub IsSpelledSelector : Selector → Type 0
IsSpelledSelector Whole = Unit {0}
IsSpelledSelector (Ranges list) = length (ranges list) < 2 ^ 16
IsSpelledSelector (Names list) =
    (length (names list) < 2 ^ 16) × All (λ name. length name < 2 ^ 16) list
IsSpelledSelector (Raw bytes) = Unit {0}

-- Its selector has a spelling, and that length fits its field.
pub record IsSpelledSpecifier (v : Specifier) : Type 0 where
  pub part : IsSpelledSelector v.selector
  pub fits : length (selector v.selector) < 2 ^ 16

-- each number fits its field
abbrev pub IsSelectorInRange : Selector → Type 0
IsSelectorInRange Whole = Unit {0}
IsSelectorInRange (Ranges list) = All (λ range. (range.0 < 2 ^ 32) × (range.1 < 2 ^ 32)) list
IsSelectorInRange (Names list) = All AreBytes list
IsSelectorInRange (Raw bytes) = AreBytes bytes

-- each number fits its field
pub record IsSpecifierInRange (v : Specifier) : Type 0 where
  pub kind : v.kind < 2 ^ 32
  pub generation : v.generation < 2 ^ 64
  pub selector : IsSelectorInRange v.selector

-- the model that has such selectors; any bytes are those of a kind without a definition
abbrev pub selector_model : Selector → Option DataModel
selector_model Whole = Some Single
selector_model (Ranges list) = Some Array
selector_model (Names list) = Some Dictionary
selector_model (Raw bytes) = None

-- its selector is one of its kind in this configuration
abbrev pub IsSpecifierOf : Config → Specifier → Type 0
IsSpecifierOf config v = selector_model v.selector ≡ model_in config v.kind

-- the selector that fills a part, of a kind with this model, or without a definition
unfoldable pub selector_at : Option DataModel → Reader Selector
selector_at (Some Single) = done Whole
selector_at (Some Array) = do
  list ← vector_at 2 (list_at (pair_at (number_at 4) (number_at 4)))
  done (Ranges list)
selector_at (Some Dictionary) = do
  list ← vector_at 2 (list_at (vector_at 2 rest_at))
  done (Names list)
selector_at None = do
  bytes ← rest_at
  done (Raw bytes)

-- a specifier, under a configuration
unfoldable pub specifier_at : Config → Reader Specifier
specifier_at config = do
  kind ← number_at 4
  generation ← number_at 8
  part ← vector_at 2 (selector_at (model_in config kind))
  done (record { kind = kind; generation = generation; selector = part })
