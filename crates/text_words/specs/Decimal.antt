-- Decimals as words: digits without a sign or a leading zero.
use Rattle.std.specs.Prelude.{ℕ, ◌+◌, ◌-◌, ◌*◌, ◌==◌, ◌&&◌, ◌||◌, nat_lt, nat_le, if◌then◌else◌, List, [], ◌∷◌, length, slice_index, Option, Some, None, codes}
use Rattle.std.specs.Char.{is_ascii_digit}
use Rattle.text_words.specs.Steps.{◌>>=◌, allowed}
use Rattle.text_words.specs.Separator.{byte_of}

-- the value of a digit
abbrev pub digit_value : ℕ → ℕ
digit_value digit = digit - byte_of (codes "0")

-- the number at most `most` that a digit makes of the number before it
unfoldable pub with_digit : ℕ → ℕ → ℕ → Option ℕ
with_digit most n digit =
    if is_ascii_digit digit && nat_le (n * 10 + digit_value digit) most
    then Some (n * 10 + digit_value digit)
    else None

-- the number at most `most` that digits make of the number before them
unfoldable pub with_digits : ℕ → ℕ → List ℕ → Option ℕ
with_digits most n [] = Some n
with_digits most n (digit ∷ digits) = do
  m ← with_digit most n digit
  with_digits most m digits

-- the number at most `most` that a word spells
unfoldable pub decimal_of : ℕ → List ℕ → Option ℕ
decimal_of most word =
    if length word == 0 || (nat_lt 1 (length word) && slice_index word 0 == byte_of (codes "0"))
    then None
    else with_digits most 0 word

-- the number from `least` to `most` that a word spells
unfoldable pub number_of : ℕ → ℕ → List ℕ → Option ℕ
number_of least most word = do
  n ← decimal_of most word
  fits ← allowed (nat_le least n)
  Some n
