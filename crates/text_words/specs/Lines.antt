-- The lines of a text.
use Rattle.std.specs.Prelude.{ℕ, ◌==◌, ◌&&◌, nat_le, Bool, true, if◌then◌else◌, List, [], ◌∷◌, ◌++◌, length, codes}
use Rattle.std.specs.Char.{is_ascii}
use Rattle.std.specs.List.{list_all}
use Rattle.text_words.specs.declared.lines.TheConstants.{LINE_FEED, MAX_LINE}
use Rattle.text_words.specs.Separator.{byte_of, joined, pieces_of}

-- a line with the line feed that ends it
abbrev pub ended : List ℕ → List ℕ
ended line = line ++ LINE_FEED ∷ []

-- the words of a line: what stands between its spaces
abbrev pub words_of : List ℕ → List (List ℕ)
words_of line = pieces_of (byte_of (codes " ")) line

-- the line that words make: one space between each two, and none at either end
abbrev pub line_of : List (List ℕ) → List ℕ
line_of words = joined (byte_of (codes " ")) words

-- a word behind a space
abbrev pub spaced : List ℕ → List ℕ
spaced word = codes " " ++ word

-- the word of a value behind a space
unfoldable pub spaced_by : {A : Type 0} → (A → List ℕ) → A → List ℕ
spaced_by text x = spaced (text x)

-- a byte in front of the first line, which is the rest where no line is ended
abbrev pub onto_lines : ℕ → List (List ℕ) × List ℕ → List (List ℕ) × List ℕ
onto_lines byte ([], rest) = ([], byte ∷ rest)
onto_lines byte (line ∷ lines, rest) = ((byte ∷ line) ∷ lines, rest)

-- the lines, each without its line feed, and the bytes behind the last line feed
unfoldable pub lines_of : List ℕ → List (List ℕ) × List ℕ
lines_of [] = ([], [])
lines_of (byte ∷ bytes) =
    let later = lines_of bytes in
    if byte == LINE_FEED then ([] ∷ later.0, later.1) else onto_lines byte later

-- a line is at most 400,000 bytes of ASCII, its line feed not counted
unfoldable pub is_sound_line : List ℕ → Bool
is_sound_line line = nat_le (length line) MAX_LINE && list_all is_ascii line

-- an empty line, or a comment, whose first byte is `#`
unfoldable pub is_passed_over : List ℕ → Bool
is_passed_over [] = true
is_passed_over (first ∷ rest) = first == byte_of (codes "#")
