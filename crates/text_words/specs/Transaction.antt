-- Transaction ids as words.
use Rattle.std.specs.Prelude.{ℕ, ◌+◌, ◌-◌, ◌*◌, ◌/◌, ◌%◌, ◌^◌, List, ◌++◌, Option, Some, codes}
use Rattle.std.specs.Fmt.{decimal}
use Rattle.text_words.specs.Steps.{◌>>=◌}
use Rattle.text_words.specs.Decimal.{decimal_of}
use Rattle.text_words.specs.Separator.{byte_of, upto}

-- the high and the low 32 bits of an id, with a point between them
unfoldable pub transaction_text : ℕ → List ℕ
transaction_text id = decimal (id / 2 ^ 32) ++ codes "." ++ decimal (id % 2 ^ 32)

-- the id of such a word
unfoldable pub transaction_of : List ℕ → Option ℕ
transaction_of word = do
  parts ← upto (byte_of (codes ".")) word
  high ← decimal_of (2 ^ 32 - 1) parts.0
  low ← decimal_of (2 ^ 32 - 1) parts.1
  Some (high * 2 ^ 32 + low)
