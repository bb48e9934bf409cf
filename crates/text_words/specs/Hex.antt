-- Bytes as words of lower-case hex digits.
use Rattle.std.specs.Prelude.{ℕ, ◌<◌, ◌||◌, Bool, if◌then◌else◌, List, Option, None, option_map, codes}
use Rattle.std.specs.Int.{is_in_range, w32, to_be_bytes, from_be_bytes}
use Rattle.std.specs.List.{list_all, All}
use Rattle.std.specs.Result.{result_ok}
use Rattle.hex.specs.Hex.{decode_of, decode_sized, encode_lower}
use Rattle.text_words.specs.Separator.{byte_of}

-- every element is a byte
abbrev pub AllBytes : List ℕ → Type 0
AllBytes bytes = All (λ byte. byte < 256) bytes

-- from `0` to `9` or from `a` to `f`
abbrev pub is_lower_digit : ℕ → Bool
is_lower_digit byte =
    is_in_range (byte_of (codes "0")) (byte_of (codes "9")) byte
    || is_in_range (byte_of (codes "a")) (byte_of (codes "f")) byte

-- the bytes of an even number of lower-case hex digits
unfoldable pub hex_of : List ℕ → Option (List ℕ)
hex_of word = if list_all is_lower_digit word then result_ok (decode_of word) else None

-- the 8 digits of a number below 2^32, big-endian
unfoldable pub number_in_hex : ℕ → List ℕ
number_in_hex n = encode_lower (to_be_bytes w32 n)

-- the number of 8 digits
unfoldable pub number_in_hex_of : List ℕ → Option ℕ
number_in_hex_of word =
    if list_all is_lower_digit word
    then option_map (from_be_bytes w32) (result_ok (decode_sized word 4))
    else None
