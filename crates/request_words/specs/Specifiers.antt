-- The words of a Fetch's kinds: `KIND[/GEN][:SEL]`.
use Rattle.std.specs.Prelude.{ℕ, ◌-◌, ◌^◌, ◌≤◌, ◌==◌, List, [], ◌∷◌, ◌++◌, length, Option, Some, None, IfSome, codes, if◌then◌else◌}
use Rattle.std.specs.Fmt.{decimal}
use Rattle.std.specs.Str.{bytes_eq}
use Rattle.text_words.specs.Decimal.{decimal_of}
use Rattle.text_words.specs.Hex.{AllBytes, hex_of}
use Rattle.text_words.specs.Listed.{AreNames, AreRanges, key_names_of, key_names_text, ranges_of, ranges_text}
use Rattle.text_words.specs.Separator.{behind, byte_of, upto}
use Rattle.text_words.specs.Steps.{◌>>=◌}
use Rattle.data_models.specs.declared.fetched.Selector.{Selector}
use Rattle.data_models.specs.declared.fetched.Selector.TheVariants.{Whole, Ranges, Names, Raw}
use Rattle.request_words.specs.declared.specifier.SpecifierWord.{SpecifierWord}
use Rattle.request_words.specs.Raw.{raw_text}

-- KIND/GEN
unfoldable pub slashed : ℕ → ℕ → List ℕ
slashed kind generation = decimal kind ++ codes "/" ++ decimal generation

-- KIND or KIND/GEN
abbrev pub counted_text : ℕ → Option ℕ → List ℕ
counted_text kind None = decimal kind
counted_text kind (Some generation) = slashed kind generation

-- the same by what stands round the slash
abbrev pub counted_by : List ℕ → Option (List ℕ × List ℕ) → Option (ℕ × Option ℕ)
counted_by word None = do
  kind ← decimal_of (2 ^ 32 - 1) word
  Some (kind, None)
counted_by word (Some parts) = do
  kind ← decimal_of (2 ^ 32 - 1) parts.0
  generation ← decimal_of (2 ^ 64 - 1) parts.1
  Some (kind, Some generation)

-- the Kind-ID of a word, and the generation counter where the word says one
unfoldable pub counted_of : List ℕ → Option (ℕ × Option ℕ)
counted_of word = counted_by word (upto (byte_of (codes "/")) word)

-- what stands behind the colon: ranges, `*` for all keys, keys, or the bytes for a kind without a
-- definition
unfoldable pub selector_text : Selector → List ℕ
selector_text Whole = []
selector_text (Ranges ranges) = ranges_text ranges
selector_text (Names []) = codes "*"
selector_text (Names (name ∷ names)) = key_names_text (name ∷ names)
selector_text (Raw bytes) = raw_text bytes

-- a selector within its limits; lists that are empty are words of their own
abbrev pub IsSelector : Selector → Type 0
IsSelector Whole = Unit {0}
IsSelector (Ranges []) = Unit {0}
IsSelector (Ranges (range ∷ ranges)) = AreRanges (range ∷ ranges)
IsSelector (Names []) = Unit {0}
IsSelector (Names (name ∷ names)) = AreNames (name ∷ names)
IsSelector (Raw bytes) = AllBytes bytes

-- keys or ranges, by the sign of a key
abbrev pub listed_selector : List ℕ → Option (List ℕ) → Option Selector
listed_selector word (Some digits) = do
  names ← key_names_of word
  Some (Names names)
listed_selector word None = do
  ranges ← ranges_of word
  Some (Ranges ranges)

-- what is asked for of a kind with a definition
abbrev pub known_selector : List ℕ → Option Selector
known_selector word =
    if length word == 0 then Some (Ranges [])
    else (if bytes_eq word (codes "*") then Some (Names [])
    else listed_selector word (behind (codes "=") word))

-- what is asked for, by the sign of a kind without a definition
abbrev pub raw_selector : List ℕ → Option (List ℕ) → Option Selector
raw_selector word (Some digits) = do
  bytes ← hex_of digits
  Some (Raw bytes)
raw_selector word None = known_selector word

-- what is asked for behind the colon
unfoldable pub selector_of : List ℕ → Option Selector
selector_of word = raw_selector word (behind (codes "?") word)

-- which values are asked for: nothing is said of a single kind's
unfoldable pub selection_text : Selector → List ℕ
selection_text Whole = []
selection_text selector = codes ":" ++ selector_text selector

-- KIND[/GEN][:SEL]
unfoldable pub specifier_text : SpecifierWord → List ℕ
specifier_text specifier =
    counted_text specifier.kind specifier.generation ++ selection_text specifier.selector

-- a specifier within its limits
pub record IsSpecifier (specifier : SpecifierWord) : Type 0 where
  pub kind : specifier.kind ≤ 2 ^ 32 - 1
  pub generation : IfSome specifier.generation (λ generation. generation ≤ 2 ^ 64 - 1)
  pub selector : IsSelector specifier.selector

-- a specifier by what stands round the colon
abbrev pub selected_by : List ℕ → Option (List ℕ × List ℕ) → Option SpecifierWord
selected_by word None = do
  kind ← counted_of word
  Some (record { kind = kind.0; generation = kind.1; selector = Whole })
selected_by word (Some parts) = do
  kind ← counted_of parts.0
  selector ← selector_of parts.1
  Some (record { kind = kind.0; generation = kind.1; selector = selector })

-- the specifier of a word
unfoldable pub specifier_of : List ℕ → Option SpecifierWord
specifier_of word = selected_by word (upto (byte_of (codes ":")) word)
