-- `drain N`
use Rattle.std.specs.Prelude.{ℕ, ◌≤◌, List, [], ◌∷◌, Option}
use Rattle.std.specs.Fmt.{decimal}
use Rattle.text_words.specs.Decimal.{number_of}
use Rattle.text_words.specs.Steps.{only_of}
use Rattle.scenario_text.specs.declared.lines.drain.TheConstants.{MAX_DRAIN}

-- the words behind `drain`
abbrev pub drain_words : ℕ → List (List ℕ)
drain_words n = decimal n ∷ []

-- the number of deliveries that words say
unfoldable pub drain_of : List (List ℕ) → Option ℕ
drain_of words = only_of (number_of 1 MAX_DRAIN) words

-- 1 to 1,000,000 deliveries
abbrev pub IsDrain : ℕ → Type 0
IsDrain n = (1 ≤ n) × (n ≤ MAX_DRAIN)
