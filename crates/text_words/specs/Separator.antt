-- Texts that separate words, and what stands round them.
use Rattle.std.specs.Prelude.{◌≡◌, ℕ, ◌+◌, ◌==◌, false, if◌then◌else◌, List, [], ◌∷◌, ◌++◌, length, take, drop, position, Option, Some, None}
use Rattle.std.specs.List.{flat_map, list_any}
use Rattle.std.specs.Str.{bytes_eq}
use Rattle.text_words.specs.Steps.{◌>>=◌}

-- the byte of a text of one
abbrev pub byte_of : List ℕ → ℕ
byte_of [] = 0
byte_of (byte ∷ bytes) = byte

-- what follows a fixed text at the front
unfoldable pub behind : List ℕ → List ℕ → Option (List ℕ)
behind text bytes =
    if bytes_eq (take (length text) bytes) text then Some (drop (length text) bytes) else None

-- what is before and behind the first byte of this value
unfoldable pub upto : ℕ → List ℕ → Option (List ℕ × List ℕ)
upto byte bytes = do
  at ← position (λ b. b == byte) bytes
  Some (take at bytes, drop (at + 1) bytes)

-- no byte of the word has this value
unfoldable pub Lacks : ℕ → List ℕ → Type 0
Lacks byte word = list_any (λ b. b == byte) word ≡ false

-- a byte before the first piece
abbrev pub onto_pieces : ℕ → List (List ℕ) → List (List ℕ)
onto_pieces byte [] = (byte ∷ []) ∷ []
onto_pieces byte (piece ∷ pieces) = (byte ∷ piece) ∷ pieces

-- what stands before, between and behind the bytes of this value: a line's words stand between
-- spaces
unfoldable pub pieces_of : ℕ → List ℕ → List (List ℕ)
pieces_of byte [] = [] ∷ []
pieces_of byte (first ∷ bytes) =
    if first == byte then [] ∷ pieces_of byte bytes else onto_pieces first (pieces_of byte bytes)

-- the pieces of what is left, where something is
abbrev pub pieces_left : ℕ → Option (List ℕ) → List (List ℕ)
pieces_left byte None = []
pieces_left byte (Some bytes) = pieces_of byte bytes

-- pieces with a byte between each two
unfoldable pub joined : ℕ → List (List ℕ) → List ℕ
joined byte [] = []
joined byte (piece ∷ pieces) = piece ++ flat_map (λ other. byte ∷ other) pieces
