-- Readers as chains of steps, each of which may find nothing.
use Rattle.std.specs.Prelude.{ℕ, ◌==◌, Bool, true, false, List, [], ◌∷◌, length, Option, Some, None, find}
use Rattle.std.specs.Str.{bytes_eq}

-- the `?` of the definitions: the next step, where this one found something
infixl 10 ◌>>=◌
abbrev pub ◌>>=◌ : {A B : Type 0} → Option A → (A → Option B) → Option B
None >>= f = None
Some x >>= f = f x

-- a test as a step
abbrev pub allowed : Bool → Option (Unit {0})
allowed true = Some tt
allowed false = None

-- the first of some words, and those behind it
abbrev pub first_of : List (List ℕ) → Option (List ℕ × List (List ℕ))
first_of [] = None
first_of (word ∷ words) = Some (word, words)

-- the first of some words as one reader reads it, and the words behind it
abbrev pub part_of : {A : Type 0} → (List ℕ → Option A) → List (List ℕ) → Option (A × List (List ℕ))
part_of of words = do
  first ← first_of words
  x ← of first.0
  Some (x, first.1)

-- the only one of some words
unfoldable pub only_word : List (List ℕ) → Option (List ℕ)
only_word words = do
  first ← first_of words
  alone ← allowed (length first.1 == 0)
  Some first.0

-- the only one as one reader reads it
abbrev pub only_of : {A : Type 0} → (List ℕ → Option A) → List (List ℕ) → Option A
only_of of words = do
  word ← only_word words
  of word

-- each of some words as one reader reads it
unfoldable pub each_of : {A : Type 0} → (List ℕ → Option A) → List (List ℕ) → Option (List A)
each_of of [] = Some []
each_of of (word ∷ words) = do
  x ← of word
  xs ← each_of of words
  Some (x ∷ xs)

-- one of some values by its fixed text
abbrev pub fixed_of : {A : Type 0} → (A → List ℕ) → List A → List ℕ → Option A
fixed_of text all word = find (λ x. bytes_eq (text x) word) all
