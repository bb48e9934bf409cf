-- What holds of every word that is read and printed.
use Rattle.std.specs.Prelude.{◌≡◌, ℕ, ◌++◌, List, length, take, Option, Some, IfSome, Result, Ok, Err}

-- what a reader finds in a word: the value whose text it is, and none where it is the text of none
-- that fits
abbrev pub Spells : {A : Type 0} → (A → List ℕ) → (A → Type 0) → List ℕ → Option A → Type 0
Spells {A} text Fits word found =
    IfSome found (λ x. Fits x × (word ≡ text x))
    × ((x : A) → Fits x → word ≡ text x → found ≡ Some x)

-- a reader and a text are one codec: what is read is printed so, and what fits is read as it is
-- printed. The text is a word, or the words of a line
pub record IsCodec {W A : Type 0} (of : W → Option A) (text : A → W)
    (Fits : A → Type 0) : Type 0 where
  pub takes : (word : W) (x : A) → of word ≡ Some x → Fits x × (word ≡ text x)
  pub again : (x : A) → Fits x → of (text x) ≡ Some x

-- what a call did that appends a text: all of it, or nothing where it failed
abbrev pub Appended : {T E : Type 0} → List ℕ → List ℕ → List ℕ → Result T E → Type 0
Appended old new text (Ok done) = new ≡ old ++ text
Appended old new text (Err failed) = new ≡ old

-- the same of a call that may leave a part of the text where it failed
abbrev pub AppendedSome : {T E : Type 0} → List ℕ → List ℕ → List ℕ → Result T E → Type 0
AppendedSome old new text (Ok done) = new ≡ old ++ text
AppendedSome old new text (Err failed) = take (length old) new ≡ old
