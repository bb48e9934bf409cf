-- The words of values: their keys, their bytes, and both with a storage time and a lifetime.
use Rattle.std.specs.Prelude.{ℕ, ◌-◌, ◌^◌, ◌<◌, ◌≤◌, List, [], ◌∷◌, ◌++◌, Option, Some, None, codes, if◌then◌else◌}
use Rattle.std.specs.Fmt.{decimal}
use Rattle.std.specs.Str.{bytes_eq}
use Rattle.hex.specs.Hex.{encode_lower}
use Rattle.text_words.specs.Decimal.{decimal_of}
use Rattle.text_words.specs.Labelled.{key_name}
use Rattle.text_words.specs.Separator.{behind, byte_of, pieces_of}
use Rattle.text_words.specs.Steps.{◌>>=◌, part_of, only_of}
use Rattle.data_models.specs.declared.stored_data.TheConstants.{END_INDEX}
use Rattle.data_models.specs.declared.stored_data.SlotKey.{SlotKey}
use Rattle.data_models.specs.declared.stored_data.SlotKey.TheVariants.{Whole, Index, End, Name}
use Rattle.request_words.specs.declared.data.TheConstants.{MAX_FILL}
use Rattle.request_words.specs.declared.data.Data.{Data}
use Rattle.request_words.specs.declared.data.Data.TheVariants.{Nonexistent, Bytes, Fill}
use Rattle.request_words.specs.declared.value.ValueWord.{ValueWord}
use Rattle.request_words.specs.Bytes.{bytes_of, AreBytes}

-- a slot's key: the whole of a single kind, an index or the end of an array, a dictionary's key
unfoldable pub slot_key_text : SlotKey → List ℕ
slot_key_text Whole = codes "-"
slot_key_text (Index index) = decimal index
slot_key_text End = codes "end"
slot_key_text (Name name) = key_name name

-- an index below that of the end, and keys as long as a line can hold
abbrev pub IsSlotKey : SlotKey → Type 0
IsSlotKey Whole = Unit {0}
IsSlotKey (Index index) = index < END_INDEX
IsSlotKey End = Unit {0}
IsSlotKey (Name name) = AreBytes name

-- the key of a kind that is no dictionary
abbrev pub unnamed_key : List ℕ → Option SlotKey
unnamed_key word =
    if bytes_eq word (codes "-") then Some Whole
    else (if bytes_eq word (codes "end") then Some End
    else (decimal_of (END_INDEX - 1) word >>= λ index. Some (Index index)))

-- a key by what is behind the sign of a dictionary
abbrev pub named_key : List ℕ → Option (List ℕ) → Option SlotKey
named_key word (Some digits) = do
  name ← bytes_of digits
  Some (Name name)
named_key word None = unnamed_key word

-- the key of a word
unfoldable pub slot_key_of : List ℕ → Option SlotKey
slot_key_of word = named_key word (behind (codes "=") word)

-- a value's bytes: nonexistent, digits, or a number of bytes 0x61
unfoldable pub data_text : Data → List ℕ
data_text Nonexistent = codes "-"
data_text (Bytes bytes) = codes "+" ++ encode_lower bytes
data_text (Fill n) = codes "#" ++ decimal n

-- bytes as many as a line can hold, or at most 140,001 bytes 0x61
abbrev pub IsData : Data → Type 0
IsData Nonexistent = Unit {0}
IsData (Bytes bytes) = AreBytes bytes
IsData (Fill n) = n ≤ MAX_FILL

-- data by what is behind a `#`
abbrev pub filled : List ℕ → Option (List ℕ) → Option Data
filled word (Some digits) = do
  n ← decimal_of MAX_FILL digits
  Some (Fill n)
filled word None = if bytes_eq word (codes "-") then Some Nonexistent else None

-- data by what is behind a `+`
abbrev pub spelled : List ℕ → Option (List ℕ) → Option Data
spelled word (Some digits) = do
  bytes ← bytes_of digits
  Some (Bytes bytes)
spelled word None = filled word (behind (codes "#") word)

-- the data of a word
unfoldable pub data_of : List ℕ → Option Data
data_of word = spelled word (behind (codes "+") word)

-- KEY:TIME:LIFE:DATA
unfoldable pub value_text : ValueWord → List ℕ
value_text v =
    slot_key_text v.key ++ codes ":" ++ decimal v.storage_time ++ codes ":" ++ decimal v.lifetime
    ++ codes ":"
    ++ data_text v.value

-- a value within its limits
pub record IsValue (v : ValueWord) : Type 0 where
  pub key : IsSlotKey v.key
  pub storage_time : v.storage_time ≤ 2 ^ 64 - 1
  pub lifetime : v.lifetime ≤ 2 ^ 32 - 1
  pub value : IsData v.value

-- a storage time and a lifetime, and the parts behind them
unfoldable pub times_in : List (List ℕ) → Option ((ℕ × ℕ) × List (List ℕ))
times_in parts = do
  time ← part_of (decimal_of (2 ^ 64 - 1)) parts
  lifetime ← part_of (decimal_of (2 ^ 32 - 1)) time.1
  Some ((time.0, lifetime.0), lifetime.1)

-- the value of its four parts
unfoldable pub value_in : List (List ℕ) → Option ValueWord
value_in parts = do
  key ← part_of slot_key_of parts
  times ← times_in key.1
  value ← only_of data_of times.1
  Some (record { key = key.0; storage_time = times.0.0; lifetime = times.0.1; value = value })

-- the value of a word
unfoldable pub value_of : List ℕ → Option ValueWord
value_of word = value_in (pieces_of (byte_of (codes ":")) word)
