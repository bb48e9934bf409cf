-- Words that list others, with a comma between each two.
use Rattle.std.specs.Prelude.{ℕ, ◌-◌, ◌^◌, ◌<◌, ◌≤◌, List, [], ◌∷◌, ◌++◌, length, Option, Some, codes}
use Rattle.std.specs.List.{flat_map, AllByRecursion}
use Rattle.std.specs.Fmt.{decimal}
use Rattle.text_words.specs.Decimal.{decimal_of}
use Rattle.text_words.specs.Hex.{AllBytes}
use Rattle.text_words.specs.Labelled.{key_name, key_name_of}
use Rattle.text_words.specs.Separator.{byte_of, pieces_of, upto}
use Rattle.text_words.specs.Steps.{◌>>=◌, each_of}

-- a text behind a comma
unfoldable pub behind_comma : {A : Type 0} → (A → List ℕ) → A → List ℕ
behind_comma text x = codes "," ++ text x

-- texts with a comma between each two
abbrev pub listed : {A : Type 0} → (A → List ℕ) → List A → List ℕ
listed text [] = []
listed text (x ∷ xs) = text x ++ flat_map (behind_comma text) xs

-- what one reader reads of each text between commas
abbrev pub listed_of : {A : Type 0} → (List ℕ → Option A) → List ℕ → Option (List A)
listed_of of word = each_of of (pieces_of (byte_of (codes ",")) word)

-- the first and the last index of a range
unfoldable pub range_text : ℕ × ℕ → List ℕ
range_text range = decimal range.0 ++ codes "-" ++ decimal range.1

-- the range of `F-L`
unfoldable pub range_of : List ℕ → Option (ℕ × ℕ)
range_of word = do
  parts ← upto (byte_of (codes "-")) word
  first ← decimal_of (2 ^ 32 - 1) parts.0
  last ← decimal_of (2 ^ 32 - 1) parts.1
  Some (first, last)

-- ranges, at least one
unfoldable pub ranges_text : List (ℕ × ℕ) → List ℕ
ranges_text ranges = listed range_text ranges

-- the ranges of a word
unfoldable pub ranges_of : List ℕ → Option (List (ℕ × ℕ))
ranges_of word = listed_of range_of word

-- a dictionary's keys, at least one
unfoldable pub key_names_text : List (List ℕ) → List ℕ
key_names_text names = listed key_name names

-- the keys of a word
unfoldable pub key_names_of : List ℕ → Option (List (List ℕ))
key_names_of word = listed_of key_name_of word

-- at least one range, of numbers of 32 bits; a first one over its last is a word too
abbrev pub AreRanges : List (ℕ × ℕ) → Type 0
AreRanges ranges =
    (1 ≤ length ranges) × AllByRecursion (λ range. (range.0 < 2 ^ 32) × (range.1 < 2 ^ 32)) ranges

-- at least one key
abbrev pub AreNames : List (List ℕ) → Type 0
AreNames names = (1 ≤ length names) × AllByRecursion AllBytes names
