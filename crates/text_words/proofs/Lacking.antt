-- Bytes that printed words lack, so that a separator behind one is found at its end.
use Rattle.std.proofs.Common.{◌≡◌, ℕ, ◌^◌, ◌<◌, Bool, true, false, List, [], ◌∷◌}
use Rattle.std.specs.Prelude.{◌==◌}
use Rattle.std.specs.Char.{is_ascii_digit}
use Rattle.std.specs.Fmt.{decimal}
use Rattle.std.specs.Int.{w128, to_be_bytes}
use Rattle.std.specs.List.{list_all, list_any}
use Rattle.std.proofs.lemmas.Bool.{and_parts}
use Rattle.hex.specs.Hex.{encode_lower}
use Rattle.text_words.specs.Hex.{AllBytes, is_lower_digit}
use Rattle.text_words.specs.Id.{id_text}
use Rattle.text_words.specs.Name.{is_visible, IsName}
use Rattle.text_words.specs.Separator.{Lacks}
use Rattle.text_words.proofs.DecimalLaws.{all_digits-decimal}
use Rattle.text_words.proofs.HexLaws.{all_lower-encode_lower}
use Rattle.text_words.proofs.IdLaws.{AllBytes-to_be_bytes}
use Rattle.text_words.proofs.NameLaws.{all_visible-name}
use Rattle.text_words.proofs.SeparatorLaws.{Lacks-nil, Lacks-cons, Lacks-append}

-- a fixed word, by `refl`
pub Lacks-fixed : (byte : ℕ) (word : List ℕ) → list_any (λ b. b == byte) word ≡ false → Lacks byte word
unfolding Lacks
Lacks-fixed byte word e = e

-- a byte that fails a test which each byte of the word passes
pub Lacks-tested : (test : ℕ → Bool) (byte : ℕ) (word : List ℕ) → list_all test word ≡ true → test byte ≡ false → Lacks byte word
Lacks-tested test byte [] all fails = Lacks-nil byte
Lacks-tested test byte (first ∷ word) all fails =
    let parts = and_parts (test first) (list_all test word) all in
    Lacks-cons byte first word (λ same. let passes = rw same at parts.0 in cc) (Lacks-tested test byte word parts.1 fails)

-- a decimal has no byte that is no digit
pub decimal-has_no : (byte n : ℕ) → n < 2 ^ 64 → is_ascii_digit byte ≡ false → Lacks byte (decimal n)
decimal-has_no byte n small other = Lacks-tested is_ascii_digit byte (decimal n) (all_digits-decimal n small) other

-- a hex word has no byte that is no lower-case digit
pub encode_lower-has_no : (byte : ℕ) (bytes : List ℕ) → AllBytes bytes → is_lower_digit byte ≡ false → Lacks byte (encode_lower bytes)
encode_lower-has_no byte bytes each other = Lacks-tested is_lower_digit byte (encode_lower bytes) (all_lower-encode_lower bytes each) other

-- nor has an id
pub id_text-has_no : (byte id : ℕ) → is_lower_digit byte ≡ false → Lacks byte (id_text id)
unfolding id_text
id_text-has_no byte id other = encode_lower-has_no byte (to_be_bytes w128 id) (AllBytes-to_be_bytes id) other

-- a name has no byte below 0x21 or above 0x7e
pub name-has_no : (byte : ℕ) (word : List ℕ) → IsName word → is_visible byte ≡ false → Lacks byte word
name-has_no byte word name other = Lacks-tested is_visible byte word (all_visible-name word name) other

-- for `search` at a text of such words
pub ruleset lacking = (Lacks-nil, Lacks-cons, Lacks-append, decimal-has_no, encode_lower-has_no, id_text-has_no, name-has_no)
