-- The bad line that is named is the first that is outside the grammar.
use Rattle.std.proofs.Common.{◌≡◌, ℕ, ◌+◌, ◌-◌, ◌==◌, Bool, true, false, cond, List, [], ◌∷◌, ◌++◌, length, take, Option, Some, None, Result, Ok, Err, refl, sym, ap, subst, ◌∙◌, append_assoc, inl, inr, arith}
use Rattle.std.specs.Prelude.{◌⊎◌}
use Rattle.std.specs.List.{flat_map, All}
use Rattle.std.proofs.lemmas.List.{append-nil, length-append, take_at, take_all}
use Rattle.std.proofs.lemmas.List.Elements.{All-head, All-tail, All-take}
use Rattle.text_words.specs.Lines.{ended, lines_of}
use Rattle.text_words.specs.Separator.{Lacks}
use Rattle.text_words.proofs.SeparatorLaws.{Lacks-nil}
use Rattle.text_words.proofs.LinesLaws.{lines_of-line, lines_of-lacks, lines_of-only}
use Rattle.scenario_text.specs.declared.scenario.Scenario.{Scenario}
use Rattle.scenario_text.specs.Declaring.{has_peer}
use Rattle.scenario_text.specs.Scenarios.{IsTextOf, Begin, IsFirstBad}
use Rattle.scenario_text.specs.Reading.{line_at, next_or_bad, reading_from, scenario_of, whole_or_bad, reading_on, reading}
use Rattle.scenario_text.proofs.TextLaws.{read-begins, begun-read, reading-again}

ok_isnt_err : {A : Type 0} (x : A) (n : ℕ) → ◌≡◌ {A = Result A ℕ} (Ok x) (Err n) → ⊥
ok_isnt_err x n e = cc

err_same : {A : Type 0} (m n : ℕ) → ◌≡◌ {A = Result A ℕ} (Err m) (Err n) → m ≡ n
err_same m n e = cc

-- ---- where reading stops

-- reading goes on from the draft that the first lines gave
reading_from-append : (so_far : Option Scenario) (n : ℕ) (front more : List (List ℕ)) (last : Option Scenario) → reading_from so_far n front ≡ Ok last → reading_from so_far n (front ++ more) ≡ reading_from last (n + length front) more
unfolding reading_from
reading_from-append so_far n [] more last e = let same : so_far ≡ last = cc in let at : n ≡ n + 0 = omega arith in λ i. reading_from (same i) (at i) more
reading_from-append so_far n (line ∷ front) more last e = by_line (line_at so_far n line) (λ next. reading_from-append next (n + 1) front more last) e
  where
    by_line : (found : Option (Option Scenario)) → ((next : Option Scenario) → reading_from next (n + 1) front ≡ Ok last → reading_from next (n + 1) (front ++ more) ≡ reading_from last (n + 1 + length front) more)
        → next_or_bad n found (λ next. reading_from next (n + 1) front) ≡ Ok last → next_or_bad n found (λ next. reading_from next (n + 1) (front ++ more)) ≡ reading_from last (n + length (line ∷ front)) more
    by_line None later e = cc
    by_line (Some next) later e = later next e ∙ ap (λ (m : ℕ). reading_from last m more) (omega arith)

-- lines of which line n is the first that is outside the grammar
record Stops (so_far : Option Scenario) (from : ℕ) (lines : List (List ℕ)) (n : ℕ) : Type 0 where
  front : List (List ℕ)
  bad : List ℕ
  behind : List (List ℕ)
  last : Option Scenario
  parts : lines ≡ front ++ bad ∷ behind
  at : n ≡ from + length front
  read : reading_from so_far from front ≡ Ok last
  none : line_at last n bad ≡ None

stops : (so_far : Option Scenario) (from : ℕ) (lines : List (List ℕ)) (n : ℕ) → reading_from so_far from lines ≡ Err n → Stops so_far from lines n
unfolding reading_from
stops so_far from [] n e = absurd cc
stops so_far from (line ∷ lines) n e = by_line (line_at so_far from line) (λ next. stops next (from + 1) lines n) refl e
  where
    by_line : (found : Option (Option Scenario)) → ((next : Option Scenario) → reading_from next (from + 1) lines ≡ Err n → Stops next (from + 1) lines n) → line_at so_far from line ≡ found → next_or_bad from found (λ next. reading_from next (from + 1) lines) ≡ Err n → Stops so_far from (line ∷ lines) n
    by_line None behind none e =
        let at : from ≡ n = cc in
        record { front = []; bad = line; behind = lines; last = so_far; parts = refl; at = omega (arith, at); read = refl; none = ap (λ (m : ℕ). line_at so_far m line) (sym at) ∙ none }
    by_line (Some next) behind some e =
        let later = behind next e in
        record {
          front = line ∷ later.front;
          bad = later.bad;
          behind = later.behind;
          last = later.last;
          parts = ap (λ (ls : List (List ℕ)). line ∷ ls) later.parts;
          at = omega (arith, later.at);
          read = ap (λ (found : Option (Option Scenario)). next_or_bad from found (λ next. reading_from next (from + 1) later.front)) some ∙ later.read;
          none = later.none;
        }

-- lines up to one that is outside the grammar are outside it
not_begun : (front : List (List ℕ)) (bad : List ℕ) (last : Option Scenario) → reading_from None 1 front ≡ Ok last → line_at last (1 + length front) bad ≡ None → Begin (front ++ bad ∷ []) → ⊥
unfolding reading_from
not_begun front bad last e none begin =
    let read = begun-read (front ++ bad ∷ []) begin in
    let stop : reading_from None 1 (front ++ bad ∷ []) ≡ Err (1 + length front) =
    reading_from-append None 1 front (bad ∷ []) last e ∙ ap (λ (found : Option (Option Scenario)). next_or_bad (1 + length front) found (λ next. Ok next)) none in
    ok_isnt_err read.0 (1 + length front) (sym read.1 ∙ stop)

-- ---- the first bad line

-- a reading that ended badly: at a line, or behind the last
whole_err : (m : ℕ) (rest : List ℕ) (read : Result (Option Scenario) ℕ) (n : ℕ) → whole_or_bad m rest read ≡ Err n → (read ≡ Err n) ⊎ ((last : Option Scenario) × (read ≡ Ok last) × (n ≡ m))
whole_err m rest (Err bad) n e = inl (ap Err (err_same bad n e))
whole_err m rest (Ok so_far) n e = inr (so_far, refl, by_rest (length rest == 0) e)
  where
    by_peer : (t : Scenario) (peer : Bool) → ◌≡◌ {A = Result Scenario ℕ} (cond peer (Ok t) (Err m)) (Err n) → n ≡ m
    by_peer t true e = absurd (ok_isnt_err t n e)
    by_peer t false e = sym (err_same {A = Scenario} m n e)

    opened : (so_far : Option Scenario) → scenario_of m so_far ≡ Err n → n ≡ m
    opened None e = sym (err_same {A = Scenario} m n e)
    opened (Some t) e = by_peer t (has_peer t.nodes) e

    by_rest : (none : Bool) → cond none (scenario_of m so_far) (Err m) ≡ Err n → n ≡ m
    by_rest true e = opened so_far e
    by_rest false e = cc

-- a line that isn't read is the first bad one
bad_at_line : (text : List ℕ) (n : ℕ) → ((s : Scenario) → IsTextOf text s → ⊥) → Stops None 1 (lines_of text).0 n → IsFirstBad text n
bad_at_line text n none stop =
    let lines : List (List ℕ) = (lines_of text).0 in
    let at : n ≡ 1 + length stop.front = stop.at in
    let long : length lines ≡ length stop.front + (1 + length stop.behind) = ap length stop.parts ∙ length-append stop.front (stop.bad ∷ stop.behind) ∙ omega arith in
    let one_more : length (stop.front ++ stop.bad ∷ []) ≡ n = length-append stop.front (stop.bad ∷ []) ∙ omega arith in
    let front_is : take (n - 1) lines ≡ stop.front = ap (take (n - 1)) stop.parts ∙ take_at stop.front (stop.bad ∷ stop.behind) (n - 1) (omega arith) in
    let upto_is : take n lines ≡ stop.front ++ stop.bad ∷ [] = ap (take n) (stop.parts ∙ sym (append_assoc stop.front (stop.bad ∷ []) stop.behind)) ∙ take_at (stop.front ++ stop.bad ∷ []) stop.behind n one_more in
    record {
      counted = omega arith;
      within = omega arith;
      before = subst Begin (sym front_is) (read-begins stop.front stop.last stop.read);
      there = λ within begin. not_begun stop.front stop.bad stop.last stop.read (ap (λ (m : ℕ). line_at stop.last m stop.bad) (sym at) ∙ stop.none) (subst Begin upto_is begin);
      none = none;
    }

-- where all lines are read, the first bad line is the one behind them
bad_behind : (text : List ℕ) (n : ℕ) (last : Option Scenario) → ((s : Scenario) → IsTextOf text s → ⊥) → reading_from None 1 (lines_of text).0 ≡ Ok last → n ≡ 1 + length (lines_of text).0 → IsFirstBad text n
bad_behind text n last none read at =
    let lines : List (List ℕ) = (lines_of text).0 in
    let all : take (n - 1) lines ≡ lines = take_all (n - 1) lines (omega arith) in
    record {
      counted = omega arith;
      within = omega arith;
      before = subst Begin (sym all) (read-begins lines last read);
      there = λ within begin. absurd (omega arith);
      none = none;
    }

-- where a reading ended badly
ended_badly : (text : List ℕ) (n : ℕ) → reading text ≡ Err n
    → (reading_from None 1 (lines_of text).0 ≡ Err n) ⊎ ((last : Option Scenario) × (reading_from None 1 (lines_of text).0 ≡ Ok last) × (n ≡ 1 + length (lines_of text).0))
unfolding reading reading_on
ended_badly text n e = whole_err (1 + length (lines_of text).0) (lines_of text).1 (reading_from None 1 (lines_of text).0) n e

-- the bad line that is named is the first
pub reading-bad : (text : List ℕ) (n : ℕ) → reading text ≡ Err n → IsFirstBad text n
reading-bad text n e =
    let none : (s : Scenario) → IsTextOf text s → ⊥ = λ s is. ok_isnt_err s n (sym (reading-again text s is) ∙ e) in
    elim (ended_badly text n e) [
      | inl stopped ↦ bad_at_line text n none (stops None 1 (lines_of text).0 n stopped)
      | inr (last, read, at) ↦ bad_behind text n last none read at
    ]
