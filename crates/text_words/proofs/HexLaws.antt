-- A word is read as bytes exactly where it is their lower-case hex text.
use Rattle.std.proofs.Common.{◌≡◌, ℕ, zero, suc, ◌+◌, ◌*◌, ◌/◌, ◌%◌, ◌<◌, ◌==◌, Bool, true, false, ◌&&◌, ◌||◌, cond, List, [], ◌∷◌, ◌++◌, length, take, get_or, slice_index, Option, Some, None, unwrap_or, Result, Ok, Err, refl, sym, ap, ◌∙◌, inl, inr, append_assoc, append-nil, arith}
use Rattle.std.specs.Prelude.{not}
use Rattle.std.specs.List.{list_all}
use Rattle.std.specs.Result.{result_ok, result_unwrap_or}
use Rattle.std.proofs.lemmas.Bool.{and_parts, cases_lt, eqb-true}
use Rattle.std.proofs.lemmas.Bool.Decides.{nat_tests}
use Rattle.std.proofs.lemmas.List.{get_or_past, get_or_default, take_more}
use Rattle.std.proofs.lemmas.List.Elements.{All-head, All-tail}
use Rattle.std.proofs.lemmas.Option.{same_Some}
use Rattle.hex.specs.Hex.{IsBytes, decode_of, decode_pairs, digit_or_error, hex_digit_value, encode_lower, encode_with, lower_digits, pair_value, value_at, ◌>>=◌}
use Rattle.hex.specs.declared.error.FromHexError.{FromHexError}
use Rattle.hex.proofs.HexLemmas.{decode_of-even, decode_of-ok, decode_of-encode_lower}
use Rattle.text_words.specs.Codec.{IsCodec}
use Rattle.text_words.specs.Hex.{AllBytes, hex_of, is_lower_digit}

-- ---- the sixteen digits

-- the test of one digit: it is the one of its value, which is below 16
abbrev is_written_back : ℕ → Bool
is_written_back digit = not (is_lower_digit digit) || slice_index lower_digits (unwrap_or (hex_digit_value digit) 99) == digit

-- the test of the digit of one value: it is in lower case
abbrev is_lower_at : ℕ → Bool
is_lower_at value = is_lower_digit (slice_index lower_digits value)

-- the test of the first n numbers
abbrev all_pass : (ℕ → Bool) → ℕ → Bool
all_pass test zero = true
all_pass test (suc n) = test n && all_pass test n

-- a number below n passed the test
all_pass-at : (test : ℕ → Bool) (n k : ℕ) → all_pass test n ≡ true → k < n → test k ≡ true
all_pass-at test zero k e below = absurd (omega arith)
all_pass-at test (suc n) k e below =
    let parts = and_parts (test n) (all_pass test n) e in
    elim (cases_lt k n) [
      | inl earlier ↦ all_pass-at test n k parts.1 earlier
      | inr last ↦ let same : k ≡ n = omega arith in ap test same ∙ parts.0
    ]

-- lower-case digits end at `f`
lower_below : (digit : ℕ) → is_lower_digit digit ≡ true → digit < 103
lower_below digit lower = grind (arith, nat_tests)

-- what the test of one digit shows
written_back : (lower : Bool) (found : Option ℕ) (digit value : ℕ) → (not lower || slice_index lower_digits (unwrap_or found 99) == digit) ≡ true → lower ≡ true → found ≡ Some value → slice_index lower_digits value ≡ digit
written_back true (Some v) digit value pass lower e =
    ap (slice_index lower_digits) (sym (same_Some v value e)) ∙ eqb-true (slice_index lower_digits v) digit pass
written_back true None digit value pass lower e = cc
written_back false found digit value pass lower e = cc

-- a lower-case digit is the one of its value
digit_of-value : (digit value : ℕ) → is_lower_digit digit ≡ true → hex_digit_value digit ≡ Some value → slice_index lower_digits value ≡ digit
digit_of-value digit value lower e = written_back (is_lower_digit digit) (hex_digit_value digit) digit value (all_pass-at is_written_back 103 digit refl (lower_below digit lower)) lower e

-- the digit of a value is in lower case
lower_at : (value : ℕ) → value < 16 → is_lower_digit (slice_index lower_digits value) ≡ true
lower_at value below = all_pass-at is_lower_at 16 value refl below

-- a value is below 16
value_below : (digit value : ℕ) → hex_digit_value digit ≡ Some value → value < 16
value_below digit value e = grind arith

-- ---- whole words

-- both steps gave a value
both_ok : {A B : Type 0} (r : Result A FromHexError) (f : A → Result B FromHexError) (y : B) → (r >>= f) ≡ Ok y → (x : A) × (r ≡ Ok x) × (f x ≡ Ok y)
both_ok (Ok x) f y e = (x, refl, e)
both_ok (Err e) f y h = cc

-- the value of a digit that was read
digit_read : (digit at value : ℕ) (found : Option ℕ) → digit_or_error digit at found ≡ Ok value → found ≡ Some value
digit_read digit at value (Some v) e = ap Some (ap (λ (r : Result ℕ FromHexError). result_unwrap_or r 0) e)
digit_read digit at value None e = cc

-- a lower-case word that is read is the text of its bytes
text_of_pairs : (at : ℕ) (word bytes : List ℕ) → list_all is_lower_digit word ≡ true → decode_pairs at word ≡ Ok bytes → word ≡ encode_lower bytes
unfolding decode_pairs encode_with
text_of_pairs at [] bytes lower e =
    let none : [] ≡ bytes = ap (λ (r : Result (List ℕ) FromHexError). result_unwrap_or r []) e in
    rw (← none) refl
text_of_pairs at (a ∷ []) bytes lower e = cc
text_of_pairs at (a ∷ b ∷ rest) bytes lower e =
    let at_a = and_parts (is_lower_digit a) (list_all is_lower_digit (b ∷ rest)) lower in
    let at_b = and_parts (is_lower_digit b) (list_all is_lower_digit rest) at_a.1 in
    let pair = both_ok (pair_value a b at) _ bytes e in
    let high = both_ok (value_at a at) _ pair.0 pair.1 in
    let low = both_ok (value_at b (at + 1)) _ pair.0 high.2 in
    let later = both_ok (decode_pairs (at + 2) rest) _ bytes pair.2 in
    let value_a = digit_read a at high.0 (hex_digit_value a) high.1 in
    let value_b = digit_read b (at + 1) low.0 (hex_digit_value b) low.1 in
    let below_b = value_below b low.0 value_b in
    let byte : high.0 * 16 + low.0 ≡ pair.0 = ap (λ (r : Result ℕ FromHexError). result_unwrap_or r 0) low.2 in
    let made : pair.0 ∷ later.0 ≡ bytes = ap (λ (r : Result (List ℕ) FromHexError). result_unwrap_or r []) later.2 in
    let up : pair.0 / 16 ≡ high.0 = omega arith in
    let down : pair.0 % 16 ≡ low.0 = omega arith in
    rw (← made) (rw (up, down, digit_of-value a high.0 at_a.0 value_a, digit_of-value b low.0 at_b.0 value_b) (ap (λ more. a ∷ b ∷ more) (text_of_pairs (at + 2) rest later.0 at_b.1 later.1)))

-- the digits of bytes are in lower case
pub all_lower-encode_lower : (bytes : List ℕ) → AllBytes bytes → list_all is_lower_digit (encode_lower bytes) ≡ true
unfolding encode_with
all_lower-encode_lower [] each = refl
all_lower-encode_lower (byte ∷ bytes) each =
    let below : byte < 256 = All-head (λ b. b < 256) byte bytes each in
    rw (lower_at (byte / 16) (omega arith), lower_at (byte % 16) (omega arith)) (all_lower-encode_lower bytes (All-tail (λ b. b < 256) byte bytes each))

-- bytes by their places, past the end too
pub IsBytes-all : (bytes : List ℕ) → AllBytes bytes → IsBytes bytes
IsBytes-all bytes each k =
    elim (cases_lt k (length bytes)) [
      | inl within ↦ each k 0 within
      | inr past ↦ rw (get_or_past bytes k 0 past) (omega arith)
    ]

-- a decoding that gave bytes
pub ok_from_some : (r : Result (List ℕ) FromHexError) (bytes : List ℕ) → result_ok r ≡ Some bytes → r ≡ Ok bytes
ok_from_some (Ok x) bytes e = ap Ok (same_Some x bytes e)
ok_from_some (Err e) bytes h = cc

-- a lower-case word that is decoded is the text of its bytes
pub decode_of-lower : (word bytes : List ℕ) → list_all is_lower_digit word ≡ true → decode_of word ≡ Ok bytes → word ≡ encode_lower bytes
decode_of-lower word bytes lower ok =
    text_of_pairs 0 word bytes lower (sym (decode_of-even word (decode_of-ok word bytes ok).0) ∙ ok)

-- a choice that is made
pub when_takes : {Y : Type 0} (b : Bool) (o : Option Y) (y : Y) → cond b o None ≡ Some y → (b ≡ true) × (o ≡ Some y)
when_takes true o y e = (refl, e)
when_takes false o y e = cc

-- a word that is read as bytes is their text
pub hex_of-takes : (word bytes : List ℕ) → hex_of word ≡ Some bytes → word ≡ encode_lower bytes
unfolding hex_of
hex_of-takes word bytes e =
    let found = when_takes (list_all is_lower_digit word) (result_ok (decode_of word)) bytes e in
    decode_of-lower word bytes found.0 (ok_from_some (decode_of word) bytes found.1)

-- the text of bytes is read as them
pub hex_of-encode_lower : (bytes : List ℕ) → AllBytes bytes → hex_of (encode_lower bytes) ≡ Some bytes
unfolding hex_of
hex_of-encode_lower bytes each = rw (all_lower-encode_lower bytes each, decode_of-encode_lower bytes (IsBytes-all bytes each)) refl

-- the text of two lists of bytes, one behind the other
pub encode_lower-append : (front back : List ℕ) → encode_lower (front ++ back) ≡ encode_lower front ++ encode_lower back
unfolding encode_with
encode_lower-append [] back = refl
encode_lower-append (byte ∷ front) back = ap (λ more. slice_index lower_digits (byte / 16) ∷ slice_index lower_digits (byte % 16) ∷ more) (encode_lower-append front back)

-- what one byte adds to the text of those before it
pub encode_lower-more : (out sofar now bytes digits : List ℕ) (i : ℕ) → i < length bytes → sofar ≡ out ++ encode_lower (take i bytes) → digits ≡ encode_lower (get_or bytes i 0 ∷ []) → now ≡ sofar ++ digits → now ≡ out ++ encode_lower (take (i + 1) bytes)
encode_lower-more out sofar now bytes digits i within before new is =
    is ∙ ap (λ front. front ++ digits) before ∙ append_assoc out (encode_lower (take i bytes)) digits
    ∙ ap (λ back. out ++ (encode_lower (take i bytes) ++ back)) new
    ∙ ap (λ text. out ++ text) (sym (ap encode_lower (take_more bytes i 0 within) ∙ encode_lower-append (take i bytes) (get_or bytes i 0 ∷ [])))

-- no byte adds nothing
pub encode_lower-none : (out : List ℕ) → out ≡ out ++ encode_lower []
unfolding encode_with
encode_lower-none out = sym (append-nil out)

-- what is read are bytes
pub hex_of-bytes : (word bytes : List ℕ) → hex_of word ≡ Some bytes → AllBytes bytes
unfolding hex_of
hex_of-bytes word bytes e =
    let found = when_takes (list_all is_lower_digit word) (result_ok (decode_of word)) bytes e in
    let small = (decode_of-ok word bytes (ok_from_some (decode_of word) bytes found.1)).3 in
    λ k d within. rw (get_or_default bytes k d 0 within) (small k)

pub hex_codec : IsCodec hex_of encode_lower AllBytes
hex_codec = record { takes = λ word bytes e. (hex_of-bytes word bytes e, hex_of-takes word bytes e); again = hex_of-encode_lower }
