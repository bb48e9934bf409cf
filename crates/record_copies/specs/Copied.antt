-- Records whose copies say all of them.
use Rattle.std.specs.Prelude.{◌≡◌, ℕ, ◌<◌, ◌≤◌, true, List, length, Option, Some, None}
use Rattle.std.specs.FinMap.{get, entries}
use Rattle.data_models.specs.declared.config.Config.{Config}
use Rattle.data_models.specs.declared.config.DataModel.{DataModel}
use Rattle.data_models.specs.Configs.{model_in}
use Rattle.data_models.specs.Stored.{key_of, stored_size}
use Rattle.storage_model.specs.declared.limits.TheConstants.{MAX_KEPT, MAX_WEIGHT}
use Rattle.storage_model.specs.declared.record.Held.{Held}
use Rattle.storage_model.specs.Records.{SlotEntry, KindEntry, Record, weight}
use Rattle.storage_model.specs.Fetches.{found_of}
use Rattle.node_model.specs.Copies.{slot_key, is_slot_key}

-- A value that a slot holds: the key that is given for it has the slot's bytes, and it has the size
-- that it is said to have, which is one at all clocks.
pub record IsCopiedValue (model : DataModel) (key : List ℕ) (h : Held) : Type 0 where
  pub spelled : key_of (slot_key model key) ≡ key
  pub size : h.size ≡ stored_size (found_of 0 (slot_key model key) h)

-- a slot whose key is of a model, and what it holds
pub record IsCopiedSlot (model : DataModel) (key : List ℕ) (s : SlotEntry) : Type 0 where
  pub sound : is_slot_key model key ≡ true
  pub held : (h : Held) → s.held ≡ Some h → IsCopiedValue model key h

-- a kind of a model, with at least one slot
pub record IsCopiedOf (model : DataModel) (k : KindEntry) : Type 0 where
  pub some : 0 < length (entries k.slots)
  pub slots : (key : List ℕ) (s : SlotEntry) → get k.slots key ≡ Some s
      → IsCopiedSlot model key s

-- a kind that has a definition
abbrev pub IsCopiedKind : Option DataModel → KindEntry → Type 0
IsCopiedKind (Some model) k = IsCopiedOf model k
IsCopiedKind None k = ⊥

-- A record whose copy says all of it: each kind has a definition under a configuration, and slots
-- whose keys are of its model, and each value has the size that it is said to have; it keeps no
-- more answers than it may, and isn't too heavy.
pub record IsCopied (config : Config) (x : Record) : Type 0 where
  pub kinds : (id : ℕ) (k : KindEntry) → get x.kinds id ≡ Some k
      → IsCopiedKind (model_in config id) k
  pub few : length x.kept ≤ MAX_KEPT
  pub light : weight x.kinds ≤ MAX_WEIGHT
