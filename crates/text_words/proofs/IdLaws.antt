-- A word is read as a number below 2^128 exactly where it is its 32 digits, and as one below 2^32 where it is its 8.
use Rattle.std.proofs.Common.{◌≡◌, ℕ, zero, suc, ◌+◌, ◌*◌, ◌/◌, ◌%◌, ◌^◌, ◌<◌, List, [], ◌∷◌, ◌++◌, length, take, drop, get_or, Option, Some, None, refl, sym, ap, subst, ◌∙◌, arith}
use Rattle.std.specs.Prelude.{option_map}
use Rattle.std.specs.Int.{w32, w64, w128, to_be_bytes, from_be_bytes, byte_at, bytes_high_first}
use Rattle.std.specs.List.{list_all}
use Rattle.std.specs.Result.{result_ok}
use Rattle.std.proofs.lemmas.List.{take-append-drop, length-take, length-drop, get_or-take, get_or-drop}
use Rattle.std.proofs.lemmas.List.Elements.{All-nil, All-cons}
use Rattle.std.proofs.lemmas.Nat.{be_bytes_4, be_bytes_8, from_be_bytes-to_be_bytes_4, from_be_bytes-to_be_bytes_8, div-mul-add, mod-mul-add, field_of, mod-pow-add, mod_low, mod_below}
use Rattle.std.proofs.lemmas.Option.{same_Some}
use Rattle.std.proofs.Math.Nat.{div-div-eq-div-mul}
use Rattle.hex.specs.Hex.{decode_sized, encode_lower}
use Rattle.hex.proofs.HexLemmas.{decode_of-ok, decode_sized-ok, decode_sized-twice, decode_sized-encode_lower}
use Rattle.text_words.specs.Codec.{IsCodec}
use Rattle.text_words.specs.Hex.{AllBytes, is_lower_digit, number_in_hex, number_in_hex_of}
use Rattle.text_words.specs.Id.{id_text, id_of}
use Rattle.text_words.proofs.HexLaws.{IsBytes-all, decode_of-lower, ok_from_some, when_takes, all_lower-encode_lower}

-- ---- sixteen bytes as two halves

-- a byte of the upper half
high_byte : (n p : ℕ) → n / (18446744073709551616 * p) % 256 ≡ n / 18446744073709551616 / p % 256
high_byte n p = ap (λ q. q % 256) (sym (div-div-eq-div-mul n 18446744073709551616 p))

-- a byte of the lower half
low_byte : (n j k : ℕ) → n / 2 ^ k % 256 ≡ n % 2 ^ (j + 8 + k) / 2 ^ k % 256
low_byte n j k =
    let m : ℕ = n / 2 ^ k in
    sym (ap (λ q. q % 256) (field_of n (j + 8) k ∙ mod-pow-add m j 8) ∙ mod_low (m / 2 ^ 8 % 2 ^ j) 8 (m % 2 ^ 8) (omega arith) ∙ omega arith)

-- the last byte
last_byte : (n : ℕ) → n % 256 ≡ n % 18446744073709551616 % 256
last_byte n = omega arith

-- the sixteen bytes of a number are those of its halves
to_be_bytes-halves : (n : ℕ) → to_be_bytes w128 n ≡ to_be_bytes w64 (n / 2 ^ 64) ++ to_be_bytes w64 (n % 2 ^ 64)
to_be_bytes-halves n = λ i.
    high_byte n (256 ^ 7) i ∷ high_byte n (256 ^ 6) i ∷ high_byte n (256 ^ 5) i ∷ high_byte n (256 ^ 4) i
    ∷ high_byte n (256 ^ 3) i ∷ high_byte n (256 ^ 2) i ∷ high_byte n 256 i ∷ (n / 18446744073709551616 % 256)
    ∷ low_byte n 0 56 i ∷ low_byte n 8 48 i ∷ low_byte n 16 40 i ∷ low_byte n 24 32 i
    ∷ low_byte n 32 24 i ∷ low_byte n 40 16 i ∷ low_byte n 48 8 i ∷ last_byte n i ∷ []

-- equal parts make equal lists
joined : {front front' back back' : List ℕ} → front ≡ front' → back ≡ back' → front ++ back ≡ front' ++ back'
joined e f = λ i. e i ++ f i

-- the front of bytes is bytes, past its end too
small_take : (n : ℕ) (bytes : List ℕ) (k : ℕ) → ((k : ℕ) → get_or bytes k 0 < 256) → get_or (take n bytes) k 0 < 256
small_take zero bytes k small = omega arith
small_take (suc n) [] k small = omega arith
small_take (suc n) (byte ∷ bytes) zero small = small 0
small_take (suc n) (byte ∷ bytes) (suc k) small = small_take n bytes k (λ j. small (suc j))

-- the number of sixteen bytes by its halves
from_be_bytes-halves : (bytes : List ℕ) → from_be_bytes w128 bytes ≡ from_be_bytes w64 (take 8 bytes) * 2 ^ 64 + from_be_bytes w64 (drop 8 bytes)
from_be_bytes-halves bytes = omega (arith, get_or-take {A = ℕ}, get_or-drop {A = ℕ})

-- eight bytes make a number of 64 bits
from_be_bytes-below : (bytes : List ℕ) → ((k : ℕ) → get_or bytes k 0 < 256) → from_be_bytes w64 bytes < 2 ^ 64
from_be_bytes-below bytes small = omega (arith, small 0, small 1, small 2, small 3, small 4, small 5, small 6, small 7)

-- sixteen bytes are those of their number
pub be_bytes_16 : (bytes : List ℕ) (n : ℕ) → length bytes ≡ 16 → ((k : ℕ) → get_or bytes k 0 < 256) → from_be_bytes w128 bytes ≡ n → to_be_bytes w128 n ≡ bytes
be_bytes_16 bytes n sixteen small is =
    let front : List ℕ = take 8 bytes in
    let back : List ℕ = drop 8 bytes in
    let small_front : (k : ℕ) → get_or front k 0 < 256 = λ k. small_take 8 bytes k small in
    let small_back : (k : ℕ) → get_or back k 0 < 256 = λ k. rw (get_or-drop 8 bytes k 0) (small (8 + k)) in
    let whole : n ≡ from_be_bytes w64 front * 2 ^ 64 + from_be_bytes w64 back = sym is ∙ from_be_bytes-halves bytes in
    let below = from_be_bytes-below back small_back in
    let high : n / 2 ^ 64 ≡ from_be_bytes w64 front = ap (λ m. m / 2 ^ 64) whole ∙ div-mul-add (from_be_bytes w64 front) (2 ^ 64) (from_be_bytes w64 back) below in
    let low : n % 2 ^ 64 ≡ from_be_bytes w64 back = ap (λ m. m % 2 ^ 64) whole ∙ mod-mul-add (from_be_bytes w64 front) (2 ^ 64) (from_be_bytes w64 back) below in
    let front_is : to_be_bytes w64 (n / 2 ^ 64) ≡ front = be_bytes_8 front (n / 2 ^ 64) (omega (arith, length-take 8 bytes)) small_front high in
    let back_is : to_be_bytes w64 (n % 2 ^ 64) ≡ back = be_bytes_8 back (n % 2 ^ 64) (omega (arith, length-drop 8 bytes)) small_back low in
    to_be_bytes-halves n ∙ joined front_is back_is ∙ take-append-drop 8 bytes

-- a number below 2^128 is the one of its sixteen bytes
pub from_be_bytes-to_be_bytes_16 : (n : ℕ) → n < 2 ^ 128 → from_be_bytes w128 (to_be_bytes w128 n) ≡ n
from_be_bytes-to_be_bytes_16 n fits =
    let high = from_be_bytes-to_be_bytes_8 (n / 2 ^ 64) (omega arith) in
    let low = from_be_bytes-to_be_bytes_8 (n % 2 ^ 64) (omega arith) in
    ap (from_be_bytes w128) (to_be_bytes-halves n)
    ∙ from_be_bytes-halves (to_be_bytes w64 (n / 2 ^ 64) ++ to_be_bytes w64 (n % 2 ^ 64))
    ∙ ap (λ m. m * 2 ^ 64 + from_be_bytes w64 (to_be_bytes w64 (n % 2 ^ 64))) high ∙ ap (λ m. n / 2 ^ 64 * 2 ^ 64 + m) low ∙ omega arith

-- ---- words of 32 digits

-- a byte of a number is below 256
byte_at-below : (i n : ℕ) → byte_at i n < 256
byte_at-below zero n = omega arith
byte_at-below (suc i) n = mod_below (n / 256 ^ suc i) 256 (omega arith)

-- the lowest bytes of a number are bytes
AllBytes-high_first : (k n : ℕ) → AllBytes (bytes_high_first k n)
AllBytes-high_first zero n = All-nil (λ b. b < 256)
AllBytes-high_first (suc k) n = All-cons (λ b. b < 256) (byte_at k n) (bytes_high_first k n) (byte_at-below k n) (AllBytes-high_first k n)

-- the bytes of a number are bytes
pub AllBytes-to_be_bytes : (n : ℕ) → AllBytes (to_be_bytes w128 n)
AllBytes-to_be_bytes n = AllBytes-high_first 16 n

-- what was mapped to a value
map_some : {A B : Type 0} (f : A → B) (o : Option A) (y : B) → option_map f o ≡ Some y → (x : A) × (o ≡ Some x) × (f x ≡ y)
map_some f None y e = cc
map_some f (Some x) y e = (x, refl, same_Some (f x) y e)

-- a word that is read as a number: 32 digits of sixteen bytes, which make the number
record IsRead (word : List ℕ) (n : ℕ) : Type 0 where
  bytes : List ℕ
  sixteen : length bytes ≡ 16
  small : (k : ℕ) → get_or bytes k 0 < 256
  spelled : word ≡ encode_lower bytes
  number : from_be_bytes w128 bytes ≡ n

id_of-read : (word : List ℕ) (n : ℕ) → id_of word ≡ Some n → IsRead word n
unfolding id_of
id_of-read word n e =
    let found = when_takes (list_all is_lower_digit word) (option_map (from_be_bytes w128) (result_ok (decode_sized word 16))) n e in
    let read = map_some (from_be_bytes w128) (result_ok (decode_sized word 16)) n found.1 in
    let sized = ok_from_some (decode_sized word 16) read.0 read.1 in
    let long = decode_sized-ok word 16 read.0 sized in
    let ok = sym (decode_sized-twice word 16 long) ∙ sized in
    let parts = decode_of-ok word read.0 ok in
    record { bytes = read.0; sixteen = omega (arith, long, parts.2); small = parts.3; spelled = decode_of-lower word read.0 found.0 ok; number = read.2 }

-- it is the 32 digits of that number
pub id_of-takes : (word : List ℕ) (n : ℕ) → id_of word ≡ Some n → word ≡ id_text n
unfolding id_text
id_of-takes word n e =
    let x = id_of-read word n e in x.spelled ∙ ap encode_lower (sym (be_bytes_16 x.bytes n x.sixteen x.small x.number))

-- sixteen bytes make a number of 128 bits
sixteen_below : (bytes : List ℕ) → ((k : ℕ) → get_or bytes k 0 < 256) → from_be_bytes w128 bytes < 2 ^ 128
sixteen_below bytes small =
    omega (arith, small 0, small 1, small 2, small 3, small 4, small 5, small 6, small 7, small 8, small 9, small 10, small 11, small 12, small 13, small 14, small 15)

-- which has 128 bits
pub id_of-below : (word : List ℕ) (n : ℕ) → id_of word ≡ Some n → n < 2 ^ 128
id_of-below word n e = let x = id_of-read word n e in subst (λ (m : ℕ). m < 2 ^ 128) x.number (sixteen_below x.bytes x.small)

-- the 32 digits of a number are read as it
pub id_of-id_text : (n : ℕ) → n < 2 ^ 128 → id_of (id_text n) ≡ Some n
unfolding id_of id_text
id_of-id_text n fits =
    let each = AllBytes-to_be_bytes n in
    let read = decode_sized-encode_lower (to_be_bytes w128 n) 16 refl (IsBytes-all (to_be_bytes w128 n) each) in
    rw (all_lower-encode_lower (to_be_bytes w128 n) each, read) (ap Some (from_be_bytes-to_be_bytes_16 n fits))

pub id_codec : IsCodec id_of id_text (λ id. id < 2 ^ 128)
id_codec = record { takes = λ word id e. (id_of-below word id e, id_of-takes word id e); again = id_of-id_text }

-- ---- words of 8 digits

-- four bytes, which make the number of 8 digits
record IsReadInHex (word : List ℕ) (n : ℕ) : Type 0 where
  bytes : List ℕ
  four : length bytes ≡ 4
  small : (k : ℕ) → get_or bytes k 0 < 256
  spelled : word ≡ encode_lower bytes
  number : from_be_bytes w32 bytes ≡ n

number_in_hex_of-read : (word : List ℕ) (n : ℕ) → number_in_hex_of word ≡ Some n → IsReadInHex word n
unfolding number_in_hex_of
number_in_hex_of-read word n e =
    let found = when_takes (list_all is_lower_digit word) (option_map (from_be_bytes w32) (result_ok (decode_sized word 4))) n e in
    let read = map_some (from_be_bytes w32) (result_ok (decode_sized word 4)) n found.1 in
    let sized = ok_from_some (decode_sized word 4) read.0 read.1 in
    let long = decode_sized-ok word 4 read.0 sized in
    let ok = sym (decode_sized-twice word 4 long) ∙ sized in
    let parts = decode_of-ok word read.0 ok in
    record { bytes = read.0; four = omega (arith, long, parts.2); small = parts.3; spelled = decode_of-lower word read.0 found.0 ok; number = read.2 }

four_below : (bytes : List ℕ) → ((k : ℕ) → get_or bytes k 0 < 256) → from_be_bytes w32 bytes < 2 ^ 32
four_below bytes small = omega (arith, small 0, small 1, small 2, small 3)

number_in_hex_of-takes : (word : List ℕ) (n : ℕ) → number_in_hex_of word ≡ Some n → (n < 2 ^ 32) × (word ≡ number_in_hex n)
unfolding number_in_hex
number_in_hex_of-takes word n e =
    let x = number_in_hex_of-read word n e in
    (subst (λ (m : ℕ). m < 2 ^ 32) x.number (four_below x.bytes x.small), x.spelled ∙ ap encode_lower (sym (be_bytes_4 x.bytes n x.four x.small (sym x.number))))

number_in_hex_of-again : (n : ℕ) → n < 2 ^ 32 → number_in_hex_of (number_in_hex n) ≡ Some n
unfolding number_in_hex_of number_in_hex
number_in_hex_of-again n fits =
    let each = AllBytes-high_first 4 n in
    let read = decode_sized-encode_lower (to_be_bytes w32 n) 4 refl (IsBytes-all (to_be_bytes w32 n) each) in
    rw (all_lower-encode_lower (to_be_bytes w32 n) each, read) (ap Some (from_be_bytes-to_be_bytes_4 n fits))

pub number_in_hex_codec : IsCodec number_in_hex_of number_in_hex (λ n. n < 2 ^ 32)
number_in_hex_codec = record { takes = number_in_hex_of-takes; again = number_in_hex_of-again }
