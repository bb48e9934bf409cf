-- Reading a text goes on from its first line to the lines behind it.
use Rattle.std.proofs.Common.{◌≡◌, ℕ, suc, ◌+◌, ◌-◌, ◌<◌, List, [], ◌∷◌, length, Option, Some, None, Result, Ok, Err, refl, sym, ap, subst, ◌∙◌, arith, length-append}
use Rattle.std.specs.Prelude.{MatchOption, IfSome}
use Rattle.text_words.specs.Separator.{upto}
use Rattle.text_words.specs.Lines.{lines_of}
use Rattle.text_words.proofs.LinesLaws.{lines_of-first}
use Rattle.text_words.proofs.SeparatorLaws.{upto-takes}
use Rattle.scenario_text.specs.declared.scenario.Scenario.{Scenario}
use Rattle.scenario_text.specs.Reads.{HasAtMost}
use Rattle.scenario_text.specs.Reading.{line_at, next_or_bad, reading_from, whole_or_bad, reading_on}

-- what line n makes of the rest of a text
abbrev pub on_or_bad : ℕ → Option (Option Scenario) → List ℕ → Result Scenario ℕ
on_or_bad n None after = Err n
on_or_bad n (Some next) after = reading_on next (n + 1) after

one_more : (n : ℕ) (found : Option (Option Scenario)) (after : List ℕ)
    → whole_or_bad (n + suc (length (lines_of after).0)) (lines_of after).1 (next_or_bad n found (λ next. reading_from next (n + 1) (lines_of after).0)) ≡ on_or_bad n found after
unfolding reading_on
one_more n None after = refl
one_more n (Some next) after =
    let e : n + suc (length (lines_of after).0) ≡ n + 1 + length (lines_of after).0 = omega arith in
    ap (λ k. whole_or_bad k (lines_of after).1 (reading_from next (n + 1) (lines_of after).0)) e

-- lines of which the first is known
by_lines : (so_far : Option Scenario) (n : ℕ) (text line after : List ℕ) → lines_of text ≡ (line ∷ (lines_of after).0, (lines_of after).1) → reading_on so_far n text ≡ on_or_bad n (line_at so_far n line) after
unfolding reading_on reading_from
by_lines so_far n text line after parts =
    ap (λ (p : List (List ℕ) × List ℕ). whole_or_bad (n + length p.0) p.1 (reading_from so_far n p.0)) parts ∙ one_more n (line_at so_far n line) after

first_lines : (text line after : List ℕ) (found : Option (List ℕ × List ℕ)) → found ≡ Some (line, after) → MatchOption found (lines_of text ≡ ([], text)) (λ r. lines_of text ≡ (r.0 ∷ (lines_of r.1).0, (lines_of r.1).1)) → lines_of text ≡ (line ∷ (lines_of after).0, (lines_of after).1)
first_lines text line after found e first =
    subst (λ (f : Option (List ℕ × List ℕ)). MatchOption f (lines_of text ≡ ([], text)) (λ r. lines_of text ≡ (r.0 ∷ (lines_of r.1).0, (lines_of r.1).1))) e first

-- a first line leads to the reading of what follows it
pub reading_on-first : (so_far : Option Scenario) (n : ℕ) (text line after : List ℕ) → upto 10 text ≡ Some (line, after) → reading_on so_far n text ≡ on_or_bad n (line_at so_far n line) after
reading_on-first so_far n text line after e = by_lines so_far n text line after (first_lines text line after (upto 10 text) e (lines_of-first text))

no_lines : (text : List ℕ) (found : Option (List ℕ × List ℕ)) → found ≡ None → MatchOption found (lines_of text ≡ ([], text)) (λ r. lines_of text ≡ (r.0 ∷ (lines_of r.1).0, (lines_of r.1).1)) → lines_of text ≡ ([], text)
no_lines text found e first =
    subst (λ (f : Option (List ℕ × List ℕ)). MatchOption f (lines_of text ≡ ([], text)) (λ r. lines_of text ≡ (r.0 ∷ (lines_of r.1).0, (lines_of r.1).1))) e first

-- where no line feed is left, nothing more is said
pub reading_on-rest : (so_far : Option Scenario) (n : ℕ) (text : List ℕ) → upto 10 text ≡ None → reading_on so_far n text ≡ whole_or_bad n text (Ok so_far)
unfolding reading_on reading_from
reading_on-rest so_far n text e =
    ap (λ (p : List (List ℕ) × List ℕ). whole_or_bad (n + length p.0) p.1 (reading_from so_far n p.0)) (no_lines text (upto 10 text) e (lines_of-first text))
    ∙ (let z : n + 0 ≡ n = omega arith in ap (λ k. whole_or_bad k text (Ok so_far)) z)

-- what follows the first line is shorter by that line and its line feed
pub shorter : (text line after : List ℕ) → upto 10 text ≡ Some (line, after) → length after < length text
shorter text line after e =
    let whole = (upto-takes 10 text line after e).0 in
    omega (arith, ap length whole, length-append line (10 ∷ after))

-- what the loop over the lines keeps: at a line that is outside the grammar, and at one that is in it
pub stopped : (so_far : Option Scenario) (n : ℕ) (text line after : List ℕ) (found : Option (Option Scenario)) (whole : Result Scenario ℕ) → upto 10 text ≡ Some (line, after) → reading_on so_far n text ≡ whole → found ≡ line_at so_far n line → found ≡ None → whole ≡ Err n
stopped so_far n text line after found whole first on e none =
    sym on ∙ reading_on-first so_far n text line after first ∙ ap (λ f. on_or_bad n f after) (sym e ∙ none)

pub went_on : (so_far next : Option Scenario) (n : ℕ) (text line after : List ℕ) (found : Option (Option Scenario)) (whole : Result Scenario ℕ) → upto 10 text ≡ Some (line, after) → reading_on so_far n text ≡ whole → found ≡ line_at so_far n line → found ≡ Some next → reading_on next (n + 1) after ≡ whole
went_on so_far next n text line after found whole first on e some =
    sym (reading_on-first so_far n text line after first ∙ ap (λ f. on_or_bad n f after) (sym e ∙ some)) ∙ on

-- a draft after line n has at most n events
pub few_then : (n : ℕ) (found : Option (Option Scenario)) (next : Option Scenario) → found ≡ Some next → IfSome found (HasAtMost n) → HasAtMost (n + 1 - 1) next
few_then n found next e few =
    let at : HasAtMost n next = subst (λ (f : Option (Option Scenario)). IfSome f (HasAtMost n)) e few in
    let k : n + 1 - 1 ≡ n = omega arith in
    rw k at
