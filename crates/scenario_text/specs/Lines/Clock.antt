-- `clock MS`
use Rattle.std.specs.Prelude.{ℕ, ◌≤◌, List, [], ◌∷◌, Option}
use Rattle.std.specs.Fmt.{decimal}
use Rattle.text_words.specs.Decimal.{number_of}
use Rattle.text_words.specs.Steps.{only_of}
use Rattle.scenario_text.specs.declared.lines.clock.TheConstants.{MAX_CLOCK}

-- the words behind `clock`
abbrev pub clock_words : ℕ → List (List ℕ)
clock_words ms = decimal ms ∷ []

-- the milliseconds that words say
unfoldable pub clock_of : List (List ℕ) → Option ℕ
clock_of words = only_of (number_of 1 MAX_CLOCK) words

-- 1 to 1,000,000,000 milliseconds
abbrev pub IsClock : ℕ → Type 0
IsClock ms = (1 ≤ ms) × (ms ≤ MAX_CLOCK)
