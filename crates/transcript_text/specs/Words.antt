-- The words of transcripts that no scenario has.
use Rattle.std.specs.Prelude.{ℕ, ◌-◌, ◌^◌, ◌≤◌, List, [], ◌∷◌, ◌++◌, Option, Some, None, IfSome, codes, if◌then◌else◌}
use Rattle.std.specs.Fmt.{decimal}
use Rattle.std.specs.Str.{bytes_eq}
use Rattle.text_words.specs.Decimal.{decimal_of}
use Rattle.text_words.specs.Separator.{byte_of, pieces_of, upto}
use Rattle.text_words.specs.Steps.{◌>>=◌, part_of, only_of}
use Rattle.request_words.specs.declared.value.ValueWord.{ValueWord}
use Rattle.request_words.specs.Values.{data_of, data_text, slot_key_of, slot_key_text, times_in, value_text, IsValue}

-- a Kind-ID and its generation counter: K:G
unfoldable pub counter_text : ℕ × ℕ → List ℕ
counter_text counter = decimal counter.0 ++ codes ":" ++ decimal counter.1

-- a Kind-ID and a generation counter within their fields
abbrev pub IsCounter : ℕ × ℕ → Type 0
IsCounter counter = (counter.0 ≤ 2 ^ 32 - 1) × (counter.1 ≤ 2 ^ 64 - 1)

-- the counter of a word
unfoldable pub counter_of : List ℕ → Option (ℕ × ℕ)
counter_of word = do
  parts ← upto (byte_of (codes ":")) word
  kind ← decimal_of (2 ^ 32 - 1) parts.0
  generation ← decimal_of (2 ^ 64 - 1) parts.1
  Some (kind, generation)

-- the number of a node, or `?` where it is none's
unfoldable pub number_text : Option ℕ → List ℕ
number_text None = codes "?"
number_text (Some number) = decimal number

-- a number of 32 bits, or none
abbrev pub IsNumber : Option ℕ → Type 0
IsNumber found = IfSome found (λ number. number ≤ 2 ^ 32 - 1)

-- the number of a word, none where it is `?`
unfoldable pub some_number_of : List ℕ → Option (Option ℕ)
some_number_of word =
    if bytes_eq word (codes "?") then Some None
    else (decimal_of (2 ^ 32 - 1) word >>= λ number. Some (Some number))

-- a value as a decision tells it: with the number of its signer's node, and the length of its
-- StoredData
pub record DecidedWord : Type 0 where
  pub value : ValueWord
  pub signer : Option ℕ
  pub size : ℕ

-- KEY:TIME:LIFE:DATA:SIGNER:SIZE
unfoldable pub decided_text : DecidedWord → List ℕ
decided_text decided =
    value_text decided.value ++ codes ":" ++ number_text decided.signer ++ codes ":"
    ++ decimal decided.size

-- a decided value within its limits
pub record IsDecided (decided : DecidedWord) : Type 0 where
  pub value : IsValue decided.value
  pub signer : IsNumber decided.signer
  pub size : decided.size ≤ 2 ^ 32 - 1

-- the value of the six parts
unfoldable pub decided_in : List (List ℕ) → Option DecidedWord
decided_in parts = do
  key ← part_of slot_key_of parts
  times ← times_in key.1
  datum ← part_of data_of times.1
  signer ← part_of some_number_of datum.1
  size ← only_of (decimal_of (2 ^ 32 - 1)) signer.1
  Some (record {
    value = record { key = key.0; storage_time = times.0.0; lifetime = times.0.1; value = datum.0 };
    signer = signer.0;
    size = size;
  })

-- the decided value of a word
unfoldable pub decided_of : List ℕ → Option DecidedWord
decided_of word = decided_in (pieces_of (byte_of (codes ":")) word)
