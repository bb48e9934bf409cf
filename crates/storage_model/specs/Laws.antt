-- What the laws of decisions speak of.
use Rattle.std.specs.Prelude.{◌≡◌, ℕ, ◌-◌, ◌^◌, ◌<◌, ◌≤◌, true, List, [], ◌∷◌, ◌++◌, Option, Some, None, fold}
use Rattle.std.specs.List.{AllByRecursion}
use Rattle.std.specs.FinMap.{empty}
use Rattle.data_models.specs.declared.config.Config.{Config}
use Rattle.data_models.specs.declared.config.KindDef.{KindDef}
use Rattle.data_models.specs.declared.config.DataModel.{DataModel}
use Rattle.data_models.specs.declared.config.DataModel.TheVariants.{Single, Array, Dictionary}
use Rattle.data_models.specs.declared.stored_data.SlotKey.{SlotKey}
use Rattle.data_models.specs.declared.stored_data.SlotKey.TheVariants.{Whole, Index, End, Name}
use Rattle.data_models.specs.Configs.{IsConfig, kind_of}
use Rattle.storage_model.specs.declared.record.Held.{Held}
use Rattle.storage_model.specs.declared.request.Value.{Value}
use Rattle.storage_model.specs.declared.request.Asked.{Asked}
use Rattle.storage_model.specs.declared.request.Asked.TheVariants.{Store}
use Rattle.storage_model.specs.Records.{KindEntry, Record, Map, record_in, kind_in}
use Rattle.storage_model.specs.Requests.{values_of, is_sound, is_permitted}
use Rattle.storage_model.specs.Puts.{held_of}
use Rattle.storage_model.specs.Decisions.{Decision, Put, kinds_of, map_after, effect_on}

-- a key is of a model: the whole of a single kind, an index or the end of an array, or a name
abbrev pub IsKeyOf : DataModel → SlotKey → Type 0
IsKeyOf Single Whole = Unit {0}
IsKeyOf Array (Index index) = index < 2 ^ 32 - 1
IsKeyOf Array End = Unit {0}
IsKeyOf Dictionary (Name name) = Unit {0}
IsKeyOf _ _ = ⊥

-- a Store that is decided makes sense under its configuration
abbrev pub IsSoundAsked : Config → Asked → Type 0
IsSoundAsked config (Store request) = is_sound config request ≡ true
IsSoundAsked config _ = Unit {0}

-- a decision under a configuration within its limits, in which each kind has its model, on a
-- request that makes sense and whose keys are of those models
pub record IsSound (models : ℕ → DataModel) (d : Decision) : Type 0 where
  pub config : IsConfig d.config
  pub kinds : AllByRecursion (λ (kind : KindDef). kind.model ≡ models kind.id) d.config.kinds
  pub keys : AllByRecursion
      (λ a. AllByRecursion (λ (v : Value). IsKeyOf (models a.kind) v.stored.key) (values_of a))
      (kinds_of d.asked)
  pub request : IsSoundAsked d.config d.asked

abbrev pub AreSound : (ℕ → DataModel) → List Decision → Type 0
AreSound models ds = AllByRecursion (IsSound models) ds

-- the one map after decisions
unfoldable pub map_from : Map → List Decision → Map
map_from m [] = m
map_from m (d ∷ ds) = map_from (map_after m d) ds

-- the one map after decisions, where nobody wrote anything before
abbrev pub map_of : List Decision → Map
map_of ds = map_from empty ds

-- what a map has of a kind at a resource
abbrev pub kind_at : Map → ℕ → ℕ → KindEntry
kind_at m resource kind = kind_in (record_in m resource).kinds kind

-- the value that was put last
abbrev pub last_put : List Put → Option Held
last_put puts = fold (λ before p. Some p.held) None puts

-- a record changed at most n times, and no kind of it got values more than n times
pub record IsWithin (n : ℕ) (x : Record) : Type 0 where
  pub turn : x.turn ≤ n
  pub generations : (kind : ℕ) → (kind_in x.kinds kind).generation ≤ n

-- some decision of these put this value at a kind of a resource, and was permitted to
pub record WasPermitted (ds : List Decision) (resource kind : ℕ) (held : Held) : Type 0 where
  pub before : List Decision
  pub decision : Decision
  pub after : List Decision
  pub among : before ++ decision ∷ after ≡ ds
  pub here : decision.resource ≡ resource
  pub acted : (effect_on (map_of before) decision).acted ≡ true
  pub definition : KindDef
  pub defined : kind_of decision.config kind ≡ Some definition
  pub value : Value
  pub permitted : is_permitted definition resource value ≡ true
  pub put : held ≡ held_of decision.time value
