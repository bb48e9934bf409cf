-- The lines of a text and its rest are the only ones that make it.
use Rattle.std.proofs.Common.{◌≡◌, ◌≢◌, ℕ, List, [], ◌∷◌, ◌++◌, Option, Some, None, refl, sym, ap, ◌∙◌, append_assoc, inl, inr, ne_eqb}
use Rattle.std.specs.Prelude.{MatchOption}
use Rattle.std.specs.List.{flat_map, All}
use Rattle.std.proofs.lemmas.Bool.{cases_eq}
use Rattle.std.proofs.lemmas.List.Elements.{All-nil, All-cons, All-head, All-tail}
use Rattle.text_words.specs.Lines.{ended, onto_lines, lines_of}
use Rattle.text_words.specs.Separator.{upto, Lacks}
use Rattle.text_words.proofs.SeparatorLaws.{Lacks-nil, Lacks-cons, Lacks-head, upto-takes, upto-none}

-- a line feed at the front ends an empty line
pub lines_of-feed : (bytes : List ℕ) → lines_of (10 ∷ bytes) ≡ ([] ∷ (lines_of bytes).0, (lines_of bytes).1)
unfolding lines_of
lines_of-feed bytes = refl

-- any other byte stands before the first line
pub lines_of-other : (byte : ℕ) (bytes : List ℕ) → byte ≢ 10 → lines_of (byte ∷ bytes) ≡ onto_lines byte (lines_of bytes)
unfolding lines_of
lines_of-other byte bytes other = rw (ne_eqb byte 10 other) refl

-- the text that lines and a rest make
abbrev pub text_of : List (List ℕ) × List ℕ → List ℕ
text_of (lines, rest) = flat_map ended lines ++ rest

-- none of the lines and no byte of the rest is a line feed
abbrev pub AreLines : List (List ℕ) × List ℕ → Type 0
AreLines (lines, rest) = All (Lacks 10) lines × Lacks 10 rest

-- a byte in front of the lines stands in front of the text
text_of-onto : (byte : ℕ) (parts : List (List ℕ) × List ℕ) → text_of (onto_lines byte parts) ≡ byte ∷ text_of parts
text_of-onto byte ([], rest) = refl
text_of-onto byte (line ∷ lines, rest) = refl

-- a byte that is no line feed keeps lines lines
AreLines-onto : (byte : ℕ) (parts : List (List ℕ) × List ℕ) → byte ≢ 10 → AreLines parts → AreLines (onto_lines byte parts)
AreLines-onto byte ([], rest) other are = (All-nil (Lacks 10), Lacks-cons 10 byte rest other are.1)
AreLines-onto byte (line ∷ lines, rest) other are =
    let first = All-head (Lacks 10) line lines are.0 in
    (All-cons (Lacks 10) (byte ∷ line) lines (Lacks-cons 10 byte line other first) (All-tail (Lacks 10) line lines are.0), are.1)

-- a text is its lines, each ended, and its rest
pub lines_of-text : (text : List ℕ) → text ≡ flat_map ended (lines_of text).0 ++ (lines_of text).1
unfolding lines_of
lines_of-text [] = refl
lines_of-text (byte ∷ bytes) =
    elim (cases_eq byte 10) [
      | inl feed ↦ rw feed (ap (λ later. 10 ∷ later) (lines_of-text bytes))
      | inr other ↦ rw (lines_of-other byte bytes other) (ap (λ later. byte ∷ later) (lines_of-text bytes) ∙ sym (text_of-onto byte (lines_of bytes)))
    ]

-- no line and not the rest holds a line feed
pub lines_of-lacks : (text : List ℕ) → All (Lacks 10) (lines_of text).0 × Lacks 10 (lines_of text).1
unfolding lines_of
lines_of-lacks [] = (All-nil (Lacks 10), Lacks-nil 10)
lines_of-lacks (byte ∷ bytes) =
    let later = lines_of-lacks bytes in
    elim (cases_eq byte 10) [
      | inl feed ↦ rw feed (All-cons (Lacks 10) [] (lines_of bytes).0 (Lacks-nil 10) later.0, later.1)
      | inr other ↦ rw (lines_of-other byte bytes other) (AreLines-onto byte (lines_of bytes) other later)
    ]

-- a line at the front is the first
pub lines_of-line : (line bytes : List ℕ) → Lacks 10 line → lines_of (line ++ 10 ∷ bytes) ≡ (line ∷ (lines_of bytes).0, (lines_of bytes).1)
lines_of-line [] bytes lacks = lines_of-feed bytes
lines_of-line (byte ∷ line) bytes lacks =
    let parts = Lacks-head 10 byte line lacks in
    lines_of-other byte (line ++ 10 ∷ bytes) parts.0 ∙ ap (onto_lines byte) (lines_of-line line bytes parts.1)

-- a text without a line feed has no line
pub lines_of-rest : (rest : List ℕ) → Lacks 10 rest → lines_of rest ≡ ([], rest)
unfolding lines_of
lines_of-rest [] lacks = refl
lines_of-rest (byte ∷ rest) lacks =
    let parts = Lacks-head 10 byte rest lacks in
    lines_of-other byte rest parts.0 ∙ ap (onto_lines byte) (lines_of-rest rest parts.1)

-- such lines and such a rest are the only ones that make a text
pub lines_of-only : (lines : List (List ℕ)) (rest : List ℕ) → All (Lacks 10) lines → Lacks 10 rest → lines_of (flat_map ended lines ++ rest) ≡ (lines, rest)
lines_of-only [] rest each last = lines_of-rest rest last
lines_of-only (line ∷ lines) rest each last =
    let later = lines_of-only lines rest (All-tail (Lacks 10) line lines each) last in
    ap lines_of (append_assoc (ended line) (flat_map ended lines) rest ∙ append_assoc line (10 ∷ []) (flat_map ended lines ++ rest))
    ∙ lines_of-line line (flat_map ended lines ++ rest) (All-head (Lacks 10) line lines each)
    ∙ ap (λ (parts : List (List ℕ) × List ℕ). (line ∷ parts.0, parts.1)) later

-- by what is found round the first line feed
first_by : (text : List ℕ) (found : Option (List ℕ × List ℕ)) → upto 10 text ≡ found → MatchOption found (lines_of text ≡ ([], text)) (λ r. lines_of text ≡ (r.0 ∷ (lines_of r.1).0, (lines_of r.1).1))
first_by text None e = lines_of-rest text (upto-none 10 text e)
first_by text (Some (line, later)) e =
    let parts = upto-takes 10 text line later e in
    ap lines_of parts.0 ∙ lines_of-line line later parts.1

-- the lines of a text by what stands round its first line feed
pub lines_of-first : (text : List ℕ) → MatchOption (upto 10 text) (lines_of text ≡ ([], text)) (λ r. lines_of text ≡ (r.0 ∷ (lines_of r.1).0, (lines_of r.1).1))
lines_of-first text = first_by text (upto 10 text) refl
