-- The words that spellings are made of (RFC 6940, 6.3.1).
use Rattle.std.specs.Prelude.{ℕ, ◌<◌, ◌^◌, slice_index, List, [], ◌∷◌, ◌++◌, length, Bool, if◌then◌else◌}
use Rattle.byteorder.specs.Endian.{big_bytes}

-- each is a byte
abbrev pub AreBytes : List ℕ → Type 0
AreBytes bytes = (i : ℕ) → slice_index bytes i < 2 ^ 8

-- a number in n bytes, the highest first
unfoldable pub number : ℕ → ℕ → List ℕ
number n x = big_bytes n x

-- a Boolean: one byte, 0 or 1
abbrev pub boolean : Bool → List ℕ
boolean b = number 1 (if b then 1 else 0)

-- a vector: the length of its content in n bytes, and the content
abbrev pub vector : ℕ → List ℕ → List ℕ
vector n content = number n (length content) ++ content

-- fields one after the other
abbrev pub joined : List (List ℕ) → List ℕ
joined [] = []
joined (field ∷ fields) = field ++ joined fields
