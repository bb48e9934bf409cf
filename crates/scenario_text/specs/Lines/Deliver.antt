-- `deliver K`
use Rattle.std.specs.Prelude.{ℕ, ◌-◌, ◌^◌, ◌≤◌, List, [], ◌∷◌, Option}
use Rattle.std.specs.Fmt.{decimal}
use Rattle.text_words.specs.Decimal.{decimal_of}
use Rattle.text_words.specs.Steps.{only_of}

-- the words behind `deliver`
abbrev pub deliver_words : ℕ → List (List ℕ)
deliver_words k = decimal k ∷ []

-- the frame's number that words say
unfoldable pub deliver_of : List (List ℕ) → Option ℕ
deliver_of words = only_of (decimal_of (2 ^ 64 - 1)) words

-- a number of 64 bits
abbrev pub IsDeliver : ℕ → Type 0
IsDeliver k = k ≤ 2 ^ 64 - 1
