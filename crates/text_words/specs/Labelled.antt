-- Words behind a fixed text.
use Rattle.std.specs.Prelude.{ℕ, List, [], ◌∷◌, ◌++◌, drop, Option, Some, None, codes}
use Rattle.std.specs.Fmt.{decimal}
use Rattle.hex.specs.Hex.{encode_lower}
use Rattle.text_words.specs.Decimal.{decimal_of}
use Rattle.text_words.specs.Hex.{hex_of}
use Rattle.text_words.specs.Name.{is_name}
use Rattle.text_words.specs.Separator.{behind}
use Rattle.text_words.specs.Steps.{◌>>=◌, allowed, first_of}

-- a label and a number, as `max=` and the most bytes of an answer
unfoldable pub labelled : List ℕ → ℕ → List ℕ
labelled label n = label ++ decimal n

-- the number at most `most` behind a label
unfoldable pub labelled_of : List ℕ → ℕ → List ℕ → Option ℕ
labelled_of label most word = do
  digits ← behind label word
  decimal_of most digits

-- a word that may be left out, and the words behind it
abbrev pub labelled_words : List ℕ → Option ℕ → List (List ℕ)
labelled_words label None = []
labelled_words label (Some n) = labelled label n ∷ []

-- what is behind a label in the first word
unfoldable pub first_behind : List ℕ → List (List ℕ) → Option (List ℕ)
first_behind label words = do
  first ← first_of words
  behind label first.0

-- what is taken of words by what is behind the label in the first of them
abbrev pub past_label : ℕ → List (List ℕ) → Option (List ℕ) → Option (Option ℕ × List (List ℕ))
past_label most words None = Some (None, words)
past_label most words (Some digits) = do
  n ← decimal_of most digits
  Some (Some n, drop 1 words)

-- the number of a first word that begins with a label, where there is one, and the words behind it
unfoldable pub optional_of : List ℕ → ℕ → List (List ℕ) → Option (Option ℕ × List (List ℕ))
optional_of label most words = past_label most words (first_behind label words)

-- `@` and a name
unfoldable pub at_name : List ℕ → List ℕ
at_name name = codes "@" ++ name

-- the name behind an `@`
unfoldable pub at_name_of : List ℕ → Option (List ℕ)
at_name_of word = do
  name ← behind (codes "@") word
  fits ← allowed (is_name name)
  Some name

-- `=` and the digits of a dictionary's key
unfoldable pub key_name : List ℕ → List ℕ
key_name name = codes "=" ++ encode_lower name

-- the bytes of `=` and digits
unfoldable pub key_name_of : List ℕ → Option (List ℕ)
key_name_of word = do
  digits ← behind (codes "=") word
  hex_of digits
