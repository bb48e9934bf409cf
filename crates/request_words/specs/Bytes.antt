-- Bytes as hex digits, as many as a line can hold.
use Rattle.std.specs.Prelude.{ℕ, ◌≤◌, nat_le, List, length, Option, Some}
use Rattle.text_words.specs.Hex.{AllBytes, hex_of}
use Rattle.text_words.specs.Steps.{◌>>=◌, allowed}
use Rattle.request_words.specs.declared.data.TheConstants.{MAX_BYTES}

-- the bytes of an even number of digits
unfoldable pub bytes_of : List ℕ → Option (List ℕ)
bytes_of digits = do
  bytes ← hex_of digits
  fits ← allowed (nat_le (length bytes) MAX_BYTES)
  Some bytes

-- bytes, as many as a line can hold
abbrev pub AreBytes : List ℕ → Type 0
AreBytes bytes = (length bytes ≤ MAX_BYTES) × AllBytes bytes
