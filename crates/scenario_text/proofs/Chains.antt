-- Reading lines is reading those that say something, one after the other, where all are sound.
use Rattle.std.proofs.Common.{◌≡◌, ℕ, ◌+◌, Bool, true, false, cond, List, [], ◌∷◌, ◌++◌, length, Option, Some, None, Result, Ok, refl, sym, ap, ◌∙◌, inl, inr, arith}
use Rattle.std.specs.Prelude.{◌⊎◌, not, filter}
use Rattle.std.specs.List.{enumerate_from, AllByRecursion}
use Rattle.std.proofs.lemmas.Bool.{cases_Bool}
use Rattle.std.proofs.lemmas.Option.{same_Some}
use Rattle.text_words.specs.Steps.{◌>>=◌}
use Rattle.text_words.specs.Lines.{is_sound_line, is_passed_over}
use Rattle.text_words.proofs.StepsLaws.{bind_some}
use Rattle.scenario_text.specs.declared.scenario.Scenario.{Scenario}
use Rattle.scenario_text.specs.Reading.{said_at, line_at, next_or_bad, read_on, reading_from}
use Rattle.scenario_text.specs.Scenarios.{said}

-- ---- the lines that say something

-- those of lines that are numbered from n on
pub said_from : ℕ → List (List ℕ) → List (ℕ × List ℕ)
said_from n lines = filter (λ l. not (is_passed_over l.1)) (enumerate_from n lines)

pub said-from : (lines : List (List ℕ)) → said lines ≡ said_from 1 lines
unfolding said said_from
said-from lines = refl

pub said_from-nil : (n : ℕ) → said_from n [] ≡ []
unfolding said_from
said_from-nil n = refl

said_from-passed : (n : ℕ) (line : List ℕ) (lines : List (List ℕ)) → is_passed_over line ≡ true → said_from n (line ∷ lines) ≡ said_from (n + 1) lines
unfolding said_from
said_from-passed n line lines passed = rw passed refl

said_from-said : (n : ℕ) (line : List ℕ) (lines : List (List ℕ)) → is_passed_over line ≡ false → said_from n (line ∷ lines) ≡ (n, line) ∷ said_from (n + 1) lines
unfolding said_from
said_from-said n line lines says = rw says refl

-- lines behind others say what they say, at later numbers
pub said_from-append : (n : ℕ) (lines more : List (List ℕ)) → said_from n (lines ++ more) ≡ said_from n lines ++ said_from (n + length lines) more
said_from-append n [] more = rw (said_from-nil n) (ap (λ (m : ℕ). said_from m more) (omega arith))
said_from-append n (line ∷ lines) more =
    let later : said_from (n + 1) (lines ++ more) ≡ said_from (n + 1) lines ++ said_from (n + length (line ∷ lines)) more =
    said_from-append (n + 1) lines more ∙ ap (λ (m : ℕ). said_from (n + 1) lines ++ said_from m more) (omega arith) in
    elim (cases_Bool (is_passed_over line)) [
      | inl passed ↦ rw (said_from-passed n line (lines ++ more) passed, said_from-passed n line lines passed) later
      | inr says ↦ rw (said_from-said n line (lines ++ more) says, said_from-said n line lines says) (ap (λ (ls : List (ℕ × List ℕ)). (n, line) ∷ ls) later)
    ]

-- ---- reading them

-- what is read of numbered lines that say something
pub reads : Option Scenario → List (ℕ × List ℕ) → Option (Option Scenario)
reads so_far [] = Some so_far
reads so_far (l ∷ ls) = said_at so_far l.0 l.1 >>= λ next. reads (Some next) ls

pub reads-nil : (so_far : Option Scenario) → reads so_far [] ≡ Some so_far
unfolding reads
reads-nil so_far = refl

-- the first line said something, from which the others are read
pub reads-takes : (so_far : Option Scenario) (l : ℕ × List ℕ) (ls : List (ℕ × List ℕ)) (last : Option Scenario) → reads so_far (l ∷ ls) ≡ Some last → (next : Scenario) × (said_at so_far l.0 l.1 ≡ Some next) × (reads (Some next) ls ≡ Some last)
unfolding reads
reads-takes so_far l ls last e = bind_some (said_at so_far l.0 l.1) _ last e

pub reads-step : (so_far : Option Scenario) (l : ℕ × List ℕ) (ls : List (ℕ × List ℕ)) (next : Scenario) → said_at so_far l.0 l.1 ≡ Some next → reads so_far (l ∷ ls) ≡ reads (Some next) ls
unfolding reads
reads-step so_far l ls next step = rw step refl

-- ---- all lines

-- each line is sound
abbrev pub AreSound : List (List ℕ) → Type 0
AreSound lines = AllByRecursion (λ l. is_sound_line l ≡ true) lines

-- a line that is in the grammar was read, and from it the others are
next_ok : (n : ℕ) (found : Option (Option Scenario)) (next : Option Scenario → Result (Option Scenario) ℕ) (last : Option Scenario) → next_or_bad n found next ≡ Ok last → (d : Option Scenario) × (found ≡ Some d) × (next d ≡ Ok last)
next_ok n None next last e = cc
next_ok n (Some d) next last e = (d, refl, e)

-- what a line said
read_on-takes : (found : Option Scenario) (next : Option Scenario) → read_on found ≡ Some next → (s : Scenario) × (found ≡ Some s) × (Some s ≡ next)
read_on-takes None next e = absurd cc
read_on-takes (Some s) next e = (s, refl, same_Some (Some s) next e)

-- a line in the grammar is sound, and is passed over or says something
abbrev Passes : Option Scenario → ℕ → List ℕ → Option Scenario → Type 0
Passes so_far n line next = ((is_passed_over line ≡ true) × (so_far ≡ next)) ⊎ ((is_passed_over line ≡ false) × ((s : Scenario) × (said_at so_far n line ≡ Some s) × (Some s ≡ next)))

line_at-takes : (so_far : Option Scenario) (n : ℕ) (line : List ℕ) (next : Option Scenario) → line_at so_far n line ≡ Some next → (is_sound_line line ≡ true) × Passes so_far n line next
unfolding line_at
line_at-takes so_far n line next e = by_tests (is_sound_line line) refl (is_passed_over line) refl e
  where
    by_tests : (sound : Bool) → is_sound_line line ≡ sound → (passed : Bool) → is_passed_over line ≡ passed → cond (not sound) None (cond passed (Some so_far) (read_on (said_at so_far n line))) ≡ Some next → (is_sound_line line ≡ true) × Passes so_far n line next
    by_tests false is passed over e = absurd cc
    by_tests true is true over e = (is, inl (over, same_Some so_far next e))
    by_tests true is false over e = (is, inr (over, read_on-takes (said_at so_far n line) next e))

pub reading_from-takes : (so_far : Option Scenario) (n : ℕ) (lines : List (List ℕ)) (last : Option Scenario) → reading_from so_far n lines ≡ Ok last → AreSound lines × (reads so_far (said_from n lines) ≡ Some last)
unfolding reading_from
reading_from-takes so_far n [] last e = (tt, rw (said_from-nil n) (reads-nil so_far ∙ ap Some (cc e)))
reading_from-takes so_far n (line ∷ lines) last e =
    let step = next_ok n (line_at so_far n line) _ last e in
    let later = reading_from-takes step.0 (n + 1) lines last step.2 in
    let here = line_at-takes so_far n line step.0 step.1 in (
      (here.0, later.0),
      elim here.1 [
        | inl passed ↦ rw (said_from-passed n line lines passed.0, passed.1) later.1
        | inr says ↦
            rw (said_from-said n line lines says.0) (reads-step so_far (n, line) (said_from (n + 1) lines) says.1.0 says.1.1 ∙ ap (λ (d : Option Scenario). reads d (said_from (n + 1) lines)) says.1.2 ∙ later.1)
      ],
    )

pub reading_from-again : (so_far : Option Scenario) (n : ℕ) (lines : List (List ℕ)) (last : Option Scenario) → AreSound lines → reads so_far (said_from n lines) ≡ Some last → reading_from so_far n lines ≡ Ok last
unfolding reading_from line_at
reading_from-again so_far n [] last sound e = ap Ok (same_Some so_far last (sym (reads-nil so_far) ∙ ap (reads so_far) (sym (said_from-nil n)) ∙ e))
reading_from-again so_far n (line ∷ lines) last sound e =
    elim (cases_Bool (is_passed_over line)) [
      | inl passed ↦ rw (sound.0, passed) (reading_from-again so_far (n + 1) lines last sound.1 (ap (reads so_far) (sym (said_from-passed n line lines passed)) ∙ e))
      | inr says ↦
          let step = reads-takes so_far (n, line) (said_from (n + 1) lines) last (ap (reads so_far) (sym (said_from-said n line lines says)) ∙ e) in
          rw (sound.0, says, step.1) (reading_from-again (Some step.0) (n + 1) lines last sound.1 step.2)
    ]
