-- `lose K`
use Rattle.std.specs.Prelude.{ℕ, ◌-◌, ◌^◌, ◌≤◌, List, [], ◌∷◌, Option}
use Rattle.std.specs.Fmt.{decimal}
use Rattle.text_words.specs.Decimal.{decimal_of}
use Rattle.text_words.specs.Steps.{only_of}

-- the words behind `lose`
abbrev pub lose_words : ℕ → List (List ℕ)
lose_words k = decimal k ∷ []

-- the number of the lost frame that words say
unfoldable pub lose_of : List (List ℕ) → Option ℕ
lose_of words = only_of (decimal_of (2 ^ 64 - 1)) words

-- a number of 64 bits
abbrev pub IsLose : ℕ → Type 0
IsLose k = k ≤ 2 ^ 64 - 1
