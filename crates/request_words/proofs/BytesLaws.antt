-- Digits are read as bytes exactly where they are their text, and what words of bytes lack.
use Rattle.std.proofs.Common.{◌≡◌, ℕ, ◌≤◌, false, List, length, Some, refl, subst, ap, ◌∙◌}
use Rattle.std.specs.Prelude.{nat_le}
use Rattle.std.proofs.lemmas.Bool.{leb-true, le-leb}
use Rattle.std.proofs.lemmas.Option.{same_Some}
use Rattle.hex.specs.Hex.{encode_lower}
use Rattle.text_words.specs.Codec.{IsCodec}
use Rattle.text_words.specs.Hex.{AllBytes, hex_of}
use Rattle.text_words.specs.Steps.{◌>>=◌, allowed}
use Rattle.text_words.proofs.HexLaws.{hex_codec}
use Rattle.text_words.proofs.StepsLaws.{bind_some, allowed_some}
use Rattle.request_words.specs.declared.data.TheConstants.{MAX_BYTES}
use Rattle.request_words.specs.Bytes.{bytes_of, AreBytes}

bytes_of-takes : (digits bytes : List ℕ) → bytes_of digits ≡ Some bytes → AreBytes bytes × (digits ≡ encode_lower bytes)
unfolding bytes_of
bytes_of-takes digits bytes e =
    let a = bind_some (hex_of digits) _ bytes e in
    let b = bind_some (allowed (nat_le (length a.0) MAX_BYTES)) _ bytes a.2 in
    let same = same_Some a.0 bytes b.2 in
    let read = hex_codec.takes digits a.0 a.1 in
    let few = leb-true (length a.0) MAX_BYTES (allowed_some (nat_le (length a.0) MAX_BYTES) b.0 b.1) in
    (subst AreBytes same (few, read.0), read.1 ∙ ap encode_lower same)

bytes_of-again : (bytes : List ℕ) → AreBytes bytes → bytes_of (encode_lower bytes) ≡ Some bytes
unfolding bytes_of
bytes_of-again bytes are = rw (hex_codec.again bytes are.1, le-leb (length bytes) MAX_BYTES are.0) refl

pub bytes_codec : IsCodec bytes_of encode_lower AreBytes
bytes_codec = record { takes = bytes_of-takes; again = bytes_of-again }
