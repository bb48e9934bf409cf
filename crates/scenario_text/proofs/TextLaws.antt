-- A text is read as a scenario exactly where it is the scenario's text.
use Rattle.std.proofs.Common.{◌≡◌, ℕ, ◌+◌, Bool, true, false, cond, List, [], ◌∷◌, ◌++◌, length, drop, Option, Some, None, Result, Ok, Err, refl, sym, ap, subst, ◌∙◌, inl, inr}
use Rattle.std.specs.Prelude.{◌⊎◌, ◌==◌, map}
use Rattle.std.proofs.lemmas.Bool.{eqb-true}
use Rattle.std.proofs.lemmas.List.{nil_from_length}
use Rattle.std.proofs.lemmas.Option.{same_Some}
use Rattle.text_words.specs.Lines.{lines_of}
use Rattle.scenario_text.specs.declared.scenario.Scenario.{Scenario}
use Rattle.scenario_text.specs.Declaring.{has_peer}
use Rattle.scenario_text.specs.Scenarios.{said, Begin, Nothing, Beginning, IsBegun, IsScenario, Say, IsTextOf}
use Rattle.scenario_text.specs.Reading.{reading_from, scenario_of, whole_or_bad, reading_on, reading}
use Rattle.scenario_text.proofs.Chains.{AreSound, said_from, said-from, reads, reads-nil, reading_from-takes, reading_from-again}
use Rattle.scenario_text.proofs.ScenarioLaws.{lines-spell, spelled-reads}
use Rattle.scenario_text.proofs.StepLaws.{Spell}

-- ---- what lines say

-- lines that say a scenario are sound, and those that say something spell it
Say-spelled : (lines : List (List ℕ)) (s : Scenario) → Say lines s → Spell (said_from 1 lines) s
Say-spelled lines s say = record {
  texts = ap (map (λ l. l.1)) (sym (said-from lines)) ∙ say.texts;
  places = ap (λ (ls : List (ℕ × List ℕ)). drop (length s.declarations) (map (λ l. l.0) ls)) (sym (said-from lines)) ∙ say.places;
}

Say-from : (lines : List (List ℕ)) (s : Scenario) → AreSound lines → Spell (said_from 1 lines) s → Say lines s
Say-from lines s sound spell = record {
  sound = sound;
  texts = ap (map (λ l. l.1)) (said-from lines) ∙ spell.texts;
  places = ap (λ (ls : List (ℕ × List ℕ)). drop (length s.declarations) (map (λ l. l.0) ls)) (said-from lines) ∙ spell.places;
}

some_isnt_none : {A : Type 0} (x : A) → ◌≡◌ {A = Option A} (Some x) None → ⊥
some_isnt_none x e = cc

-- lines that are read as a scenario begin it and say it
pub lines-say : (lines : List (List ℕ)) (s : Scenario) → reading_from None 1 lines ≡ Ok (Some s) → IsBegun s × Say lines s
lines-say lines s e =
    let parts = reading_from-takes None 1 lines (Some s) e in
    elim (lines-spell (said_from 1 lines) (Some s) parts.1) [
      | inl nothing ↦ absurd (some_isnt_none s nothing.1)
      | inr (t, same, spell, begun) ↦
          let is : t ≡ s = sym (same_Some s t same) in
          (subst IsBegun is begun, Say-from lines s parts.0 (subst (λ (u : Scenario). Spell (said_from 1 lines) u) is spell))
    ]

-- and backwards
pub say-read : (lines : List (List ℕ)) (s : Scenario) → IsBegun s → Say lines s → reading_from None 1 lines ≡ Ok (Some s)
say-read lines s begun say = reading_from-again None 1 lines (Some s) say.sound (spelled-reads (said_from 1 lines) s begun (Say-spelled lines s say))

-- lines that are read are in the grammar
pub read-begins : (lines : List (List ℕ)) (last : Option Scenario) → reading_from None 1 lines ≡ Ok last → Begin lines
read-begins lines last e =
    let parts = reading_from-takes None 1 lines last e in
    elim (lines-spell (said_from 1 lines) last parts.1) [
      | inl nothing ↦ Nothing parts.0 (said-from lines ∙ nothing.0)
      | inr (t, same, spell, begun) ↦ Beginning t begun (Say-from lines t parts.0 spell)
    ]

-- and backwards
pub begun-read : (lines : List (List ℕ)) → Begin lines → (last : Option Scenario) × (reading_from None 1 lines ≡ Ok last)
begun-read lines (Nothing sound none) = (None, reading_from-again None 1 lines None sound (ap (reads None) (sym (said-from lines) ∙ none) ∙ reads-nil None))
begun-read lines (Beginning s begun say) = (Some s, say-read lines s begun say)

-- ---- the text

-- a reading that ended well
whole_ok : (n : ℕ) (rest : List ℕ) (read : Result (Option Scenario) ℕ) (s : Scenario) → whole_or_bad n rest read ≡ Ok s → (rest ≡ []) × (read ≡ Ok (Some s)) × (has_peer s.nodes ≡ true)
whole_ok n rest (Err bad) s e = absurd cc
whole_ok n rest (Ok so_far) s e =
    let found = by_rest (length rest == 0) refl e in
    (found.0, ap Ok found.1.0, found.1.1)
  where
    by_peer : (t : Scenario) (peer : Bool) → has_peer t.nodes ≡ peer → ◌≡◌ {A = Result Scenario ℕ} (cond peer (Ok t) (Err n)) (Ok s) → (Some t ≡ Some s) × (has_peer s.nodes ≡ true)
    by_peer t true is e = let same : t ≡ s = cc in (ap Some same, ap (λ (u : Scenario). has_peer u.nodes) (sym same) ∙ is)
    by_peer t false is e = absurd cc

    opened : (so_far : Option Scenario) → scenario_of n so_far ≡ Ok s → (so_far ≡ Some s) × (has_peer s.nodes ≡ true)
    opened None e = absurd cc
    opened (Some t) e = by_peer t (has_peer t.nodes) refl e

    by_rest : (none : Bool) → (length rest == 0) ≡ none → cond none (scenario_of n so_far) (Err n) ≡ Ok s → (rest ≡ []) × ((so_far ≡ Some s) × (has_peer s.nodes ≡ true))
    by_rest true none e = (nil_from_length rest (eqb-true (length rest) 0 none), opened so_far e)
    by_rest false none e = absurd cc

-- a text that is read as a scenario is its text
pub reading-takes : (text : List ℕ) (s : Scenario) → reading text ≡ Ok s → IsTextOf text s
unfolding reading reading_on
reading-takes text s e =
    let read = whole_ok (1 + length (lines_of text).0) (lines_of text).1 (reading_from None 1 (lines_of text).0) s e in
    let says = lines-say (lines_of text).0 s read.1 in
    record { scenario = record { begun = says.0; peer = read.2 }; whole = read.0; says = says.1 }

-- the text of a scenario is read as it
pub reading-again : (text : List ℕ) (s : Scenario) → IsTextOf text s → reading text ≡ Ok s
unfolding reading reading_on
reading-again text s is =
    ap (whole_or_bad (1 + length (lines_of text).0) (lines_of text).1) (say-read (lines_of text).0 s is.scenario.begun is.says)
    ∙ ap (λ (rest : List ℕ). whole_or_bad (1 + length (lines_of text).0) rest (Ok (Some s))) is.whole
    ∙ ap (λ (peer : Bool). cond peer (Ok s) (Err (1 + length (lines_of text).0))) is.scenario.peer
