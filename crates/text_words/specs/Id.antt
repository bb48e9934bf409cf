-- Numbers below 2^128 as words of 32 lower-case hex digits, big-endian.
use Rattle.std.specs.Prelude.{ℕ, if◌then◌else◌, List, Option, None, option_map}
use Rattle.std.specs.Int.{w128, to_be_bytes, from_be_bytes}
use Rattle.std.specs.List.{list_all}
use Rattle.std.specs.Result.{result_ok}
use Rattle.hex.specs.Hex.{encode_lower, decode_sized}
use Rattle.text_words.specs.Hex.{is_lower_digit}

-- the 32 digits of a number
unfoldable pub id_text : ℕ → List ℕ
id_text id = encode_lower (to_be_bytes w128 id)

-- the number of 32 digits
unfoldable pub id_of : List ℕ → Option ℕ
id_of word =
    if list_all is_lower_digit word
    then option_map (from_be_bytes w128) (result_ok (decode_sized word 16))
    else None
