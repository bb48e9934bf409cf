-- The word of what has no definition: the bytes of a kind's values, and of what is asked of it.
use Rattle.std.specs.Prelude.{ℕ, List, ◌++◌, Option, codes}
use Rattle.hex.specs.Hex.{encode_lower}
use Rattle.text_words.specs.Hex.{hex_of}
use Rattle.text_words.specs.Separator.{behind}
use Rattle.text_words.specs.Steps.{◌>>=◌}

-- `?` and the digits of the bytes
unfoldable pub raw_text : List ℕ → List ℕ
raw_text bytes = codes "?" ++ encode_lower bytes

-- the bytes of such a word
unfoldable pub raw_of : List ℕ → Option (List ℕ)
raw_of word = do
  digits ← behind (codes "?") word
  hex_of digits
