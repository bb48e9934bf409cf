-- The test of a name decides what a name is.
use Rattle.std.proofs.Common.{◌≡◌, ℕ, ◌≤◌, Bool, true, ◌&&◌, List, [], ◌∷◌, length, refl, arith}
use Rattle.std.specs.Prelude.{nat_le, ◌↔◌}
use Rattle.std.specs.List.{list_all, AllByRecursion}
use Rattle.std.proofs.lemmas.Bool.Decides.{nat_tests}
use Rattle.std.proofs.lemmas.Bool.{and_parts}
use Rattle.text_words.specs.Name.{is_visible, is_name, IsName}

-- what the test of a byte shows
visible : (byte : ℕ) → is_visible byte ≡ true → (33 ≤ byte) × (byte ≤ 126)
visible byte e = grind (arith, nat_tests)

-- the same backwards
visible_from : (byte : ℕ) → (33 ≤ byte) × (byte ≤ 126) → is_visible byte ≡ true
visible_from byte h = grind (arith, nat_tests)

-- what the test of a length shows
sized : (n : ℕ) (b : Bool) → (nat_le 1 n && nat_le n 64 && b) ≡ true → (1 ≤ n) × (n ≤ 64) × (b ≡ true)
sized n b e = grind (arith, nat_tests)

-- the same backwards
sized_from : (n : ℕ) (b : Bool) → 1 ≤ n → n ≤ 64 → b ≡ true → (nat_le 1 n && nat_le n 64 && b) ≡ true
sized_from n b some short e = grind (arith, nat_tests)

-- each byte of a name is visible
all_visible : (word : List ℕ) → AllByRecursion (λ byte. (33 ≤ byte) × (byte ≤ 126)) word → list_all is_visible word ≡ true
all_visible [] each = refl
all_visible (byte ∷ word) each = rw (visible_from byte each.0, all_visible word each.1) refl

are_visible : (word : List ℕ) → list_all is_visible word ≡ true → AllByRecursion (λ byte. (33 ≤ byte) × (byte ≤ 126)) word
are_visible [] e = tt
are_visible (byte ∷ word) e = let parts = and_parts (is_visible byte) (list_all is_visible word) e in (visible byte parts.0, are_visible word parts.1)

pub all_visible-name : (word : List ℕ) → IsName word → list_all is_visible word ≡ true
all_visible-name word name = all_visible word name.2

-- a word passes the test exactly where it is a name
pub is_name-IsName : (word : List ℕ) → (is_name word ≡ true) ↔ IsName word
unfolding is_name
is_name-IsName word = (
  λ e. let parts = sized (length word) (list_all is_visible word) e in (parts.0, parts.1, are_visible word parts.2),
  λ name. sized_from (length word) (list_all is_visible word) name.0 name.1 (all_visible-name word name),
)
