-- Values as they are stored: keys, spelling, size, and how they are read (RFC 6940, 7 to 7.2).
use Rattle.std.specs.Prelude.{◌≡◌, ℕ, ◌+◌, ◌<◌, ◌^◌, ◌==◌, ◌||◌, Bool, false, List, [], ◌∷◌, ◌++◌, length, if◌then◌else◌}
use Rattle.std.specs.Int.{w32, to_be_bytes}
use Rattle.reload_ids.specs.declared.TheConstants.{ID_LENGTH}
use Rattle.wire_core.specs.declared.bad.Reason.TheVariants.{BadValue}
use Rattle.wire_core.specs.declared.signature.SignerIdentity.TheVariants as signers
use Rattle.wire_core.specs.Spelling.{AreBytes, number, boolean, vector, joined}
use Rattle.wire_core.specs.Signature.{signature, signature_at, IsSpelledSignature, IsSignatureInRange}
use Rattle.wire_core.specs.Reading.{Reader, ◌>>=◌, ◌>>◌, done, allowed, place_at, rest_at, number_at, boolean_at, vector_at}
use Rattle.data_models.specs.declared.config.DataModel.{DataModel}
use Rattle.data_models.specs.declared.config.DataModel.TheVariants.{Single, Array, Dictionary}
use Rattle.data_models.specs.declared.stored_data.TheConstants.{END_INDEX}
use Rattle.data_models.specs.declared.stored_data.SlotKey.{SlotKey}
use Rattle.data_models.specs.declared.stored_data.SlotKey.TheVariants.{Whole, Index, End, Name}
use Rattle.data_models.specs.declared.stored_data.StoredData.{StoredData}

-- ---- keys

-- the data model that has such keys
abbrev pub model_of : SlotKey → DataModel
model_of Whole = Single
model_of (Index index) = Array
model_of End = Array
model_of (Name name) = Dictionary

-- a slot's key as bytes: an array's index, a dictionary's name, else none (this profile)
unfoldable pub key_of : SlotKey → List ℕ
key_of Whole = []
key_of (Index index) = to_be_bytes w32 index
key_of End = []
key_of (Name name) = name

-- what stands of a key before the value: nothing, an index, or a dictionary's key (7.2)
unfoldable pub key_part : SlotKey → List ℕ
key_part Whole = []
key_part (Index index) = number 4 index
key_part End = number 4 END_INDEX
key_part (Name name) = vector 2 name

-- how many bytes that are
abbrev pub key_size : SlotKey → ℕ
key_size Whole = 0
key_size (Index index) = 4
key_size End = 4
key_size (Name name) = 2 + length name

-- An index isn't the one that stands for the end; a dictionary's key has at most 65,535 bytes.
abbrev pub IsSpelledKey : SlotKey → Type 0
IsSpelledKey Whole = Unit {0}
IsSpelledKey (Index index) = index < END_INDEX
IsSpelledKey End = Unit {0}
IsSpelledKey (Name name) = length name < 2 ^ 16

-- each number fits its field
abbrev pub IsKeyInRange : SlotKey → Type 0
IsKeyInRange Whole = Unit {0}
IsKeyInRange (Index index) = Unit {0}
IsKeyInRange End = Unit {0}
IsKeyInRange (Name name) = AreBytes name

-- the key that an index is
abbrev pub indexed : ℕ → SlotKey
indexed index = if index == END_INDEX then End else Index index

-- a key of a model
unfoldable pub key_at : DataModel → Reader SlotKey
key_at Single = done Whole
key_at Array = do
  index ← number_at 4
  done (indexed index)
key_at Dictionary = do
  name ← vector_at 2 rest_at
  done (Name name)

-- ---- values

-- a DataValue: whether there is a value, and its bytes (7.2)
unfoldable pub data_value : Bool × List ℕ → List ℕ
data_value datum = boolean datum.0 ++ vector 4 datum.1

-- A value that doesn't exist has no bytes (this profile).
pub record IsSpelledData (datum : Bool × List ℕ) : Type 0 where
  pub fits : length datum.1 < 2 ^ 32
  pub absent : datum.0 ≡ false → datum.1 ≡ []

-- a DataValue; bytes of a value that doesn't exist are a bad value at their length
unfoldable pub data_value_at : Reader (Bool × List ℕ)
data_value_at = do
  present ← boolean_at
  place ← place_at
  value ← vector_at 4 rest_at
  allowed (present || (length value == 0)) place BadValue
  done (present, value)

-- a StoredDataValue: a key and a DataValue (7.2)
unfoldable pub stored_value : StoredData → List ℕ
stored_value v = key_part v.key ++ data_value (v.present, v.value)

-- Its key and its DataValue have a spelling.
pub record IsSpelledValue (v : StoredData) : Type 0 where
  pub key : IsSpelledKey v.key
  pub datum : IsSpelledData (v.present, v.value)

-- what a value's signature signs, up to the SignerIdentity (7.1)
unfoldable pub signed_part : ℕ → ℕ → StoredData → List ℕ
signed_part resource kind v =
    joined (number ID_LENGTH resource ∷ number 4 kind ∷ number 8 v.storage_time
    ∷ stored_value v ∷ [])

-- ---- stored data

-- what the length of a StoredData counts (7)
unfoldable pub stored_content : StoredData → List ℕ
stored_content v =
    joined (number 8 v.storage_time ∷ number 4 v.lifetime ∷ stored_value v
    ∷ signature v.signature ∷ [])

-- a StoredData
unfoldable pub stored : StoredData → List ℕ
stored v = vector 4 (stored_content v)

-- its whole length in bytes
abbrev pub stored_size : StoredData → ℕ
stored_size v = length (stored v)

-- what a Fetch gives where no value is (7.4.2.2)
unfoldable pub gap : SlotKey → StoredData
gap key = record {
  key = key;
  storage_time = 0;
  lifetime = 0;
  present = false;
  value = [];
  signature = record { hash = 0; algorithm = 0; identity = signers.None; value = [] };
}

-- Its value and its signature have a spelling, and their length fits its field.
pub record IsSpelledStored (v : StoredData) : Type 0 where
  pub value : IsSpelledValue v
  pub signature : IsSpelledSignature v.signature
  pub fits : length (stored_content v) < 2 ^ 32

-- each number fits its field
pub record IsStoredInRange (v : StoredData) : Type 0 where
  pub storage_time : v.storage_time < 2 ^ 64
  pub lifetime : v.lifetime < 2 ^ 32
  pub key : IsKeyInRange v.key
  pub value : AreBytes v.value
  pub signature : IsSignatureInRange v.signature

-- its key is one of the model
abbrev pub IsStoredOf : DataModel → StoredData → Type 0
IsStoredOf model v = model_of v.key ≡ model

-- what the length of a StoredData counts, under a model
unfoldable pub stored_content_at : DataModel → Reader StoredData
stored_content_at model = do
  storage_time ← number_at 8
  lifetime ← number_at 4
  key ← key_at model
  datum ← data_value_at
  signer ← signature_at
  done (record {
    key = key;
    storage_time = storage_time;
    lifetime = lifetime;
    present = datum.0;
    value = datum.1;
    signature = signer;
  })

-- a StoredData of a kind with this model
unfoldable pub stored_at : DataModel → Reader StoredData
stored_at model = vector_at 4 (stored_content_at model)
