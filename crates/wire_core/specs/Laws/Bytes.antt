-- From the bytes of a number to the number, and back.
use Rattle.std.proofs.Common.{◌≡◌, ℕ, zero, suc, ◌+◌, ◌*◌, ◌^◌, ◌<◌, ◌≤◌, List, [], ◌∷◌, ◌++◌, length, get_or, take, drop, refl, sym, ap, ◌∙◌, arith, inl, inr}
use Rattle.std.proofs.lemmas.Bool.{cases_lt}
use Rattle.std.proofs.lemmas.List.{append-nil, length-append, length-take, get_or-take, get_or-drop, get_or_past, take_at, drop_at}
use Rattle.std.proofs.lemmas.Nat.{same_from_place}
use Rattle.std.specs.Int.{byte_at, bytes_high_first}
use Rattle.byteorder.specs.Endian.{big_from, big_number}
use Rattle.byteorder.specs.Numbers.{big_from-cons, big_from-lt, big_number-reads_back, length-bytes_high_first}
use Rattle.wire_core.specs.Spelling.{AreBytes, number}

pub AreBytes-rest : (b : ℕ) (bytes : List ℕ) → AreBytes (b ∷ bytes) → AreBytes bytes
AreBytes-rest b bytes h i = h (suc i)

pub AreBytes-behind : (front rest : List ℕ) → AreBytes (front ++ rest) → AreBytes rest
AreBytes-behind [] rest h = h
AreBytes-behind (b ∷ front) rest h = AreBytes-behind front rest (AreBytes-rest b (front ++ rest) h)

pub AreBytes-take : (n : ℕ) (bytes : List ℕ) → AreBytes bytes → AreBytes (take n bytes)
AreBytes-take n bytes h i =
    elim (cases_lt i n) [
      | inl lt ↦ rw (get_or-take n bytes i 0 lt) (h i)
      | inr le ↦ rw (get_or_past (take n bytes) i 0 (omega (arith, length-take n bytes)))
          (omega arith)
    ]

byte-lt : (k x : ℕ) → byte_at k x < 256
byte-lt zero x = omega arith
byte-lt (suc k) x = omega arith

AreBytes-bytes_high_first : (n x : ℕ) → AreBytes (bytes_high_first n x)
AreBytes-bytes_high_first zero x i = omega arith
AreBytes-bytes_high_first (suc n) x zero = byte-lt n x
AreBytes-bytes_high_first (suc n) x (suc i) = AreBytes-bytes_high_first n x i

-- as many bytes that make one number are the same bytes
big_from-same : (n : ℕ) (xs ys : List ℕ) → length xs ≡ n → length ys ≡ n → AreBytes xs → AreBytes ys
    → big_from 0 n xs ≡ big_from 0 n ys → xs ≡ ys
big_from-same zero [] [] l m f g e = refl
big_from-same zero (x ∷ xs) ys l m f g e = absurd (omega arith)
big_from-same zero [] (y ∷ ys) l m f g e = absurd (omega arith)
big_from-same (suc n) [] ys l m f g e = absurd (omega arith)
big_from-same (suc n) (x ∷ xs) [] l m f g e = absurd (omega arith)
big_from-same (suc n) (x ∷ xs) (y ∷ ys) l m f g e =
    let high = rw (big_from-cons 0 n x xs, big_from-cons 0 n y ys) at e in
    let p = same_from_place x (big_from 0 n xs) y (big_from 0 n ys) (256 ^ n)
    (big_from-lt 0 n xs (AreBytes-rest x xs f)) (big_from-lt 0 n ys (AreBytes-rest y ys g)) high
    in
    let rest = big_from-same n xs ys (omega arith) (omega arith) (AreBytes-rest x xs f)
    (AreBytes-rest y ys g) p.1 in
    rw (p.0, rest) refl

-- ---- the words

pub length-number : (n x : ℕ) → length (number n x) ≡ n
unfolding number
length-number n x = length-bytes_high_first n x

pub AreBytes-number : (n x : ℕ) → AreBytes (number n x)
unfolding number
AreBytes-number n x = AreBytes-bytes_high_first n x

-- what n bytes make is a number of n bytes
pub big_number-lt : (n : ℕ) (bytes : List ℕ) → AreBytes bytes → big_number n bytes < 256 ^ n
big_number-lt n bytes fits = big_from-lt 0 n bytes fits

-- the bytes of the number that n bytes make are these bytes
pub number-big_number : (n : ℕ) (bytes : List ℕ) → length bytes ≡ n → AreBytes bytes
    → number n (big_number n bytes) ≡ bytes
unfolding number
number-big_number n bytes len fits =
    let x = big_number n bytes in
    let back : big_from 0 n (bytes_high_first n x ++ []) ≡ x = big_number-reads_back n x []
    (big_number-lt n bytes fits) in
    let same : big_from 0 n (bytes_high_first n x) ≡ x = rw append-nil at back in
    big_from-same n (bytes_high_first n x) bytes (length-bytes_high_first n x) len
    (AreBytes-bytes_high_first n x) fits same

-- the number that a number's bytes make is this number
pub big_number-number : (n x : ℕ) → x < 256 ^ n → big_number n (number n x) ≡ x
unfolding number
big_number-number n x lt =
    let back = big_number-reads_back n x [] lt in
    rw append-nil at back

-- what begins with a number's bytes begins with no other's
pub number-in_front : (n x y : ℕ) (a b : List ℕ) → number n x ++ a ≡ number n y ++ b → x < 256 ^ n
    → y < 256 ^ n → (x ≡ y) × (a ≡ b)
number-in_front n x y a b e lt lu =
    let front : number n x ≡ number n y = sym (take_at (number n x) a n (length-number n x))
    ∙ ap (take n) e ∙ take_at (number n y) b n (length-number n y) in
    let rest : a ≡ b = sym (drop_at (number n x) a n (length-number n x)) ∙ ap (drop n) e ∙ drop_at
    (number n y) b n (length-number n y) in
    (sym (big_number-number n x lt) ∙ ap (big_number n) front ∙ big_number-number n y lu, rest)
