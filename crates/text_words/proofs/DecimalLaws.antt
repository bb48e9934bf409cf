-- A word is read as a decimal exactly where it is the decimal of the number.
use Rattle.std.proofs.Common.{◌≡◌, ℕ, ◌+◌, ◌-◌, ◌*◌, ◌^◌, ◌<◌, ◌≤◌, Bool, true, false, ◌&&◌, ◌||◌, cond, List, [], ◌∷◌, length, get_or, Option, Some, None, refl, sym, ap, ◌∙◌, inl, inr, arith, rules}
use Rattle.std.specs.Prelude.{nat_lt, nat_le, ◌==◌}
use Rattle.std.specs.Char.{is_ascii_digit}
use Rattle.std.specs.Fmt.{decimal}
use Rattle.std.specs.List.{list_all}
use Rattle.std.proofs.lemmas.Bool.{and_parts, cases_eq, leb-true, le-leb}
use Rattle.std.proofs.lemmas.Bool.Decides.{nat_tests}
use Rattle.std.proofs.lemmas.Fmt.{digits_decimal, digits_value-decimal, decimal-digits_value, first_decimal, decimal_nonempty, decimal_digit}
use Rattle.std.proofs.lemmas.Str.Parse.{IsNumeralModel, numerals_by_fold}
use Rattle.std.proofs.lemmas.Option.{same_Some}
use Rattle.text_words.proofs.StepsLaws.{bind_some, allowed_some}
use Rattle.text_words.specs.Codec.{IsCodec}
use Rattle.text_words.specs.Decimal.{with_digit, with_digits, decimal_of, number_of}
use Rattle.text_words.specs.Steps.{allowed}

-- the number that digits make of the number before them
abbrev read_on : ℕ → List ℕ → ℕ
read_on n [] = n
read_on n (digit ∷ digits) = read_on (n * 10 + (digit - 48)) digits

-- the two stand for std's digits and their value
own : IsNumeralModel (λ ds. list_all is_ascii_digit ds ≡ true) (read_on 0)
own = numerals_by_fold _ (search rules) read_on (search rules)

-- a decimal has digits alone
pub all_digits-decimal : (n : ℕ) → n < 2 ^ 64 → list_all is_ascii_digit (decimal n) ≡ true
all_digits-decimal n small = digits_decimal own n small

-- more digits make no smaller number
read_on-le : (n : ℕ) (digits : List ℕ) → n ≤ read_on n digits
read_on-le n [] = omega arith
read_on-le n (digit ∷ digits) = let later = read_on-le (n * 10 + (digit - 48)) digits in omega (arith, later)

-- what one digit made
with_digit-takes : (most n digit m : ℕ) → with_digit most n digit ≡ Some m → (is_ascii_digit digit ≡ true) × (m ≡ n * 10 + (digit - 48)) × (m ≤ most)
unfolding with_digit
with_digit-takes most n digit m e = grind (arith, nat_tests)

-- a digit that makes no number over `most`
with_digit-fits : (most n digit : ℕ) → is_ascii_digit digit ≡ true → n * 10 + (digit - 48) ≤ most → with_digit most n digit ≡ Some (n * 10 + (digit - 48))
unfolding with_digit
with_digit-fits most n digit is fits = grind (arith, nat_tests)

-- what digits made
with_digits-takes : (most n : ℕ) (digits : List ℕ) (m : ℕ) → n ≤ most → with_digits most n digits ≡ Some m → (list_all is_ascii_digit digits ≡ true) × (m ≡ read_on n digits) × (m ≤ most)
unfolding with_digits
with_digits-takes most n [] m fits e = let same = same_Some n m e in (refl, sym same, omega (arith, same))
with_digits-takes most n (digit ∷ digits) m fits e =
    let step = bind_some (with_digit most n digit) (λ k. with_digits most k digits) m e in
    let first = with_digit-takes most n digit step.0 step.1 in
    let later = with_digits-takes most step.0 digits m first.2 step.2 in
    (rw (first.0, later.0) refl, later.1 ∙ ap (λ k. read_on k digits) first.1, later.2)

-- digits that make no number over `most`
with_digits-fits : (most n : ℕ) (digits : List ℕ) → list_all is_ascii_digit digits ≡ true → read_on n digits ≤ most → with_digits most n digits ≡ Some (read_on n digits)
unfolding with_digits
with_digits-fits most n [] is fits = refl
with_digits-fits most n (digit ∷ digits) is fits =
    let parts = and_parts (is_ascii_digit digit) (list_all is_ascii_digit digits) is in
    let up = read_on-le (n * 10 + (digit - 48)) digits in
    rw (with_digit-fits most n digit parts.0 (omega (arith, up))) (with_digits-fits most (n * 10 + (digit - 48)) digits parts.1 fits)

-- a word is plain where it isn't empty, and begins with 0 only where it is no longer
plain_parts : (length first : ℕ) → (length == 0 || (nat_lt 1 length && first == 48)) ≡ false → (0 < length) × (first ≡ 48 → length ≡ 1)
plain_parts length first e = (grind (arith, nat_tests), λ zero. grind (arith, nat_tests))

-- the same backwards
plain_from_parts : (length first : ℕ) → 0 < length → (first ≡ 48 → length ≡ 1) → (length == 0 || (nat_lt 1 length && first == 48)) ≡ false
plain_from_parts length first some lone = grind (arith, nat_tests)

-- a choice that is made
unless_takes : (b : Bool) (o : Option ℕ) (n : ℕ) → cond b None o ≡ Some n → (b ≡ false) × (o ≡ Some n)
unless_takes true o n e = cc
unless_takes false o n e = (refl, e)

-- a choice that is not stopped
unless_false : (b : Bool) (o : Option ℕ) → b ≡ false → cond b None o ≡ o
unless_false b o e = rw e refl

-- a word that is read as a number is its decimal
pub decimal_of-takes : (most : ℕ) (word : List ℕ) (n : ℕ) → most < 2 ^ 64 → decimal_of most word ≡ Some n → (n ≤ most) × (word ≡ decimal n)
unfolding decimal_of
decimal_of-takes most word n small e =
    let read = unless_takes (length word == 0 || (nat_lt 1 (length word) && get_or word 0 0 == 48)) (with_digits most 0 word) n e in
    let plain = plain_parts (length word) (get_or word 0 0) read.0 in
    let digits = with_digits-takes most 0 word n (omega arith) read.1 in
    let fits : read_on 0 word < 2 ^ 64 = omega arith in
    (digits.2, sym (ap decimal digits.1 ∙ decimal-digits_value own word digits.0 plain.0 plain.1 fits))

-- the decimal of 0 is one digit, and no other begins with 0
lone_zero : (n : ℕ) → n < 2 ^ 64 → get_or (decimal n) 0 0 ≡ 48 → length (decimal n) ≡ 1
lone_zero n small e =
    elim (cases_eq n 0) [
      | inl none ↦ rw none (ap length (decimal_digit 0 (omega arith)))
      | inr some ↦ absurd (omega (arith, first_decimal n (omega arith) small))
    ]

-- the decimal of a number is read as the number
pub decimal_of-decimal : (most n : ℕ) → most < 2 ^ 64 → n ≤ most → decimal_of most (decimal n) ≡ Some n
unfolding decimal_of
decimal_of-decimal most n small fits =
    let below : n < 2 ^ 64 = omega arith in
    let value = digits_value-decimal own n below in
    unless_false _ (with_digits most 0 (decimal n)) (plain_from_parts (length (decimal n)) (get_or (decimal n) 0 0) (decimal_nonempty n below) (lone_zero n below))
    ∙ with_digits-fits most 0 (decimal n) (all_digits-decimal n below) (omega (arith, value))
    ∙ ap Some value

-- both ways
pub decimal_codec : (most : ℕ) → most < 2 ^ 64 → IsCodec (decimal_of most) decimal (λ n. n ≤ most)
decimal_codec most small = record { takes = λ word n e. decimal_of-takes most word n small e; again = λ n fits. decimal_of-decimal most n small fits }

-- a number from `least` to `most`
number_of-takes : (least most : ℕ) (word : List ℕ) (n : ℕ) → most < 2 ^ 64 → number_of least most word ≡ Some n → ((least ≤ n) × (n ≤ most)) × (word ≡ decimal n)
unfolding number_of
number_of-takes least most word n small e =
    let a = bind_some (decimal_of most word) _ n e in
    let b = bind_some (allowed (nat_le least a.0)) _ n a.2 in
    let same = same_Some a.0 n b.2 in
    let from = leb-true least a.0 (allowed_some (nat_le least a.0) b.0 b.1) in
    let read = decimal_of-takes most word a.0 small a.1 in
    ((omega (arith, from, same), omega (arith, read.0, same)), read.1 ∙ ap decimal same)

number_of-again : (least most n : ℕ) → most < 2 ^ 64 → (least ≤ n) × (n ≤ most) → number_of least most (decimal n) ≡ Some n
unfolding number_of
number_of-again least most n small fits = rw (decimal_of-decimal most n small fits.1, le-leb least n fits.0) refl

pub number_codec : (least most : ℕ) → most < 2 ^ 64 → IsCodec (number_of least most) decimal (λ n. (least ≤ n) × (n ≤ most))
number_codec least most small = record { takes = λ word n e. number_of-takes least most word n small e; again = λ n fits. number_of-again least most n small fits }
