-- Which configurations there are, and what they say of a Kind-ID.
use Rattle.std.specs.Prelude.{◌≡◌, ◌≢◌, ℕ, ◌≤◌, ◌==◌, List, [], ◌∷◌, length, Option, find}
use Rattle.std.specs.Option.{option_map}
use Rattle.std.specs.Char.{IsAsciiGraphic}
use Rattle.std.specs.List.{AllByRecursion}
use Rattle.access_policy.specs.declared.Policy.{Policy}
use Rattle.access_policy.specs.declared.Policy.TheVariants.{UserMatch, NodeMatch, UserNodeMatch, NodeMultiple}
use Rattle.data_models.specs.declared.config.TheConstants.{MAX_KINDS, MAX_COUNT, MAX_SIZE, MAX_MULTIPLE, MAX_SEQUENCE, MAX_REPLICAS, MAX_NAME}
use Rattle.data_models.specs.declared.config.DataModel.{DataModel}
use Rattle.data_models.specs.declared.config.DataModel.TheVariants.{Dictionary}
use Rattle.data_models.specs.declared.config.KindDef.{KindDef}
use Rattle.data_models.specs.declared.config.Config.{Config}

-- the definition of a Kind-ID, where the configuration has one
unfoldable pub kind_of : Config → ℕ → Option KindDef
kind_of config id = find (λ kind. kind.id == id) config.kinds

-- the data model of a Kind-ID, where the configuration has its definition
unfoldable pub model_in : Config → ℕ → Option DataModel
model_in config id = option_map (λ kind. kind.model) (kind_of config id)

-- NODE-MULTIPLE has 1 to 20 resources for each node, the other policies have no such number
abbrev pub IsMultiple : Policy → ℕ → Type 0
IsMultiple NodeMultiple multiple = (1 ≤ multiple) × (multiple ≤ MAX_MULTIPLE)
IsMultiple UserMatch multiple = multiple ≡ 0
IsMultiple NodeMatch multiple = multiple ≡ 0
IsMultiple UserNodeMatch multiple = multiple ≡ 0

-- the limits of one kind; USER-NODE-MATCH looks at the keys of a dictionary (RFC 6940, 7.3.3)
pub record IsKind (kind : KindDef) : Type 0 where
  pub count_from : 1 ≤ kind.max_count
  pub count_to : kind.max_count ≤ MAX_COUNT
  pub size : kind.max_size ≤ MAX_SIZE
  pub multiple : IsMultiple kind.policy kind.multiple
  pub keyed : kind.policy ≡ UserNodeMatch → kind.model ≡ Dictionary

-- no two kinds have one Kind-ID
abbrev pub AreDistinct : List KindDef → Type 0
AreDistinct [] = Unit {0}
AreDistinct (kind ∷ kinds) = AllByRecursion (λ other. other.id ≢ kind.id) kinds × AreDistinct kinds

-- a name, a number and kinds, each within its limits (this profile)
pub record IsConfig (config : Config) : Type 0 where
  pub name_from : 1 ≤ length config.name
  pub name_to : length config.name ≤ MAX_NAME
  pub visible : AllByRecursion IsAsciiGraphic config.name
  pub sequence_from : 1 ≤ config.sequence
  pub sequence_to : config.sequence ≤ MAX_SEQUENCE
  pub replicas : config.replicas ≤ MAX_REPLICAS
  pub few : length config.kinds ≤ MAX_KINDS
  pub distinct : AreDistinct config.kinds
  pub kinds : AllByRecursion IsKind config.kinds
