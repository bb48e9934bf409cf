-- `overlay NAME`
use Rattle.std.specs.Prelude.{ℕ, List, [], ◌∷◌, Option, Some}
use Rattle.text_words.specs.Name.{is_name}
use Rattle.text_words.specs.Steps.{◌>>=◌, allowed, only_of}

-- a word that is a name
unfoldable pub name_of : List ℕ → Option (List ℕ)
name_of word = do
  fits ← allowed (is_name word)
  Some word

-- the words behind `overlay`
abbrev pub overlay_words : List ℕ → List (List ℕ)
overlay_words name = name ∷ []

-- the overlay's name that words say
unfoldable pub overlay_of : List (List ℕ) → Option (List ℕ)
overlay_of words = only_of name_of words
