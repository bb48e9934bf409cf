-- What a request asks for, and when it makes sense (RFC 6940, 7.4).
use Rattle.std.specs.Prelude.{ℕ, ◌==◌, ◌&&◌, ◌||◌, Bool, true, false, not, List, [], ◌∷◌, length, map, filter, nat_le}
use Rattle.std.specs.Option.{option_map_or}
use Rattle.std.specs.List.{list_any, list_all}
use Rattle.std.specs.Ordering.{nat_cmp, is_eq}
use Rattle.std.specs.Cmp.Lexicographic.{slice_cmp}
use Rattle.access_policy.specs.Policies.{permits}
use Rattle.data_models.specs.declared.config.Config.{Config}
use Rattle.data_models.specs.declared.config.KindDef.{KindDef}
use Rattle.data_models.specs.declared.config.DataModel.{DataModel}
use Rattle.data_models.specs.declared.config.DataModel.TheVariants.{Single}
use Rattle.data_models.specs.declared.stored_data.SlotKey.{SlotKey}
use Rattle.data_models.specs.declared.stored_data.SlotKey.TheVariants.{End}
use Rattle.data_models.specs.declared.fetched.Selector.{Selector}
use Rattle.data_models.specs.declared.fetched.Selector.TheVariants as selectors
use Rattle.data_models.specs.Configs.{kind_of}
use Rattle.data_models.specs.Stored.{key_of}
use Rattle.storage_model.specs.declared.request.Value.{Value}
use Rattle.storage_model.specs.declared.request.AskedKind.{AskedKind}
use Rattle.storage_model.specs.declared.request.AskedValues.{AskedValues}
use Rattle.storage_model.specs.declared.request.AskedValues.TheVariants.{Known, Raw}
use Rattle.storage_model.specs.declared.request.StoreAsked.{StoreAsked}
use Rattle.storage_model.specs.declared.request.FetchAsked.{FetchAsked}

-- the values that are known: of a kind that the configuration lacks none are
abbrev pub known_values : AskedValues → List Value
known_values (Known values) = values
known_values (Raw bytes) = []

-- the values of a kind, none where the configuration lacks the kind
abbrev pub values_of : AskedKind → List Value
values_of asked = known_values asked.values

-- whether a Store puts a value of this kind
unfoldable pub puts : AskedKind → Bool
puts asked = not (length (values_of asked) == 0)

-- the end of an array, where values are appended
abbrev pub is_end : SlotKey → Bool
is_end End = true
is_end _ = false

-- the values that have a slot, and those that are appended
unfoldable pub placed : List Value → List Value
placed values = filter (λ v. not (is_end v.stored.key)) values

unfoldable pub appended : List Value → List Value
appended values = filter (λ v. is_end v.stored.key) values

-- two keys as bytes are the same
abbrev pub is_same_key : List ℕ → List ℕ → Bool
is_same_key a b = is_eq (slice_cmp nat_cmp a b)

-- some entry is the same as a later one
unfoldable pub has_twice : {X : Type 0} → (X → X → Bool) → List X → Bool
has_twice same [] = false
has_twice same (x ∷ xs) = list_any (same x) xs || has_twice same xs

-- a single kind has one value
abbrev pub has_one : DataModel → List Value → Bool
has_one Single values = length values == 1
has_one _ values = true

-- two values name one slot
abbrev pub is_same_slot : Value → Value → Bool
is_same_slot v w = is_same_key (key_of v.stored.key) (key_of w.stored.key)

-- values are as many as the kind's model asks for, and name no slot twice; an append names none
unfoldable pub is_sound_kind : Config → AskedKind → Bool
is_sound_kind config a =
    option_map_or (λ kind. has_one kind.model (values_of a)) (kind_of config a.kind) true
    && not (has_twice is_same_slot (placed (values_of a)))

-- a Store names no kind twice, and each kind soundly
unfoldable pub is_sound : Config → StoreAsked → Bool
is_sound config request =
    not (has_twice (λ a b. a.kind == b.kind) request.kinds)
    && list_all (is_sound_kind config) request.kinds

-- each range's first is at most its last
abbrev pub has_ranges : Selector → Bool
has_ranges (selectors.Ranges ranges) = list_all (λ range. nat_le range.0 range.1) ranges
has_ranges _ = true

-- a Fetch names no kind twice, and no range whose first is over its last
unfoldable pub is_sound_fetch : FetchAsked → Bool
is_sound_fetch request =
    not (has_twice (λ a b. a.kind == b.kind) request.specifiers)
    && list_all (λ s. has_ranges s.selector) request.specifiers

-- the value's signer may write it at this resource (RFC 6940, 7.3); nobody else may
unfoldable pub is_permitted : KindDef → ℕ → Value → Bool
is_permitted kind resource v =
    let key = key_of v.stored.key in
    option_map_or
    (λ a. permits kind.policy kind.multiple resource key a.user a.node.0)
    v.signer
    false

-- a value of a Store as its sameness sees it: its key, storage time, lifetime and data
pub record GroupValue : Type 0 where
  pub key : SlotKey
  pub storage_time : ℕ
  pub lifetime : ℕ
  pub present : Bool
  pub value : List ℕ

-- a group of a Store as its sameness sees it: the kind, the generation counter, and the values
pub record Group : Type 0 where
  pub kind : ℕ
  pub generation : ℕ
  pub values : List GroupValue

abbrev pub group_value : Value → GroupValue
group_value v = record {
  key = v.stored.key;
  storage_time = v.stored.storage_time;
  lifetime = v.stored.lifetime;
  present = v.stored.present;
  value = v.stored.value;
}

abbrev pub group_of : AskedKind → Group
group_of a = record {
  kind = a.kind;
  generation = a.generation;
  values = map group_value (values_of a);
}

unfoldable pub groups_of : List AskedKind → List Group
groups_of asked = map group_of asked
