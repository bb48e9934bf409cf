-- A run with one more event.
use Rattle.std.proofs.Common.{◌≡◌, ℕ, ◌+◌, ◌<◌, List, [], ◌∷◌, ◌++◌, length, get_or, take, drop, map, Bool, refl, ap, sym, ◌∙◌, append_assoc, append-nil}
use Rattle.std.proofs.lemmas.List.{take_more, drop_more, take-append-drop, map-append}
use Rattle.node_messages.specs.Signed.{SignerWords}
use Rattle.run_model.specs.Worlds.{World}
use Rattle.run_model.specs.Moves.{moved}
use Rattle.run_model.specs.Runs.{Event, world_after}
use Rattle.scenario_text.specs.declared.scenario.Scenario.{Scenario}
use Rattle.scenario_text.specs.declared.scenario.Event as said
use Rattle.scenario_text.specs.Echo.{echo}
use Rattle.scenario_run.specs.Runs.{event_of, events_of, first_of, world_of, AreFirst}
use Rattle.scenario_run.specs.Texts.{event_text, lines_from, text_of, end_text, transcript}

-- ---- worlds and lines of some events and others

world_of_both : (signer : SignerWords) (w : World) (es fs : List Event) → world_after signer w (es ++ fs) ≡ world_after signer (world_after signer w es) fs
unfolding world_after
world_of_both signer w [] fs = refl
world_of_both signer w (e ∷ es) fs = world_of_both signer (moved signer e.0 e.1 w).world es fs

lines_of_both : (signer : SignerWords) (traced : Bool) (w : World) (es fs : List Event) → lines_from signer traced w (es ++ fs) ≡ lines_from signer traced w es ++ lines_from signer traced (world_after signer w es) fs
unfolding lines_from world_after
lines_of_both signer traced w [] fs = refl
lines_of_both signer traced w (e ∷ es) fs =
    let first = moved signer e.0 e.1 w in
    let text = event_text traced w first in
    ap (λ (l : List ℕ). text ++ l) (lines_of_both signer traced first.world es fs)
    ∙ sym (append_assoc text (lines_from signer traced first.world es) (lines_from signer traced (world_after signer first.world es) fs))

-- the lines of one event
lines_of_one : (signer : SignerWords) (traced : Bool) (w : World) (e : Event) → lines_from signer traced w (e ∷ []) ≡ event_text traced w (moved signer e.0 e.1 w)
unfolding lines_from
lines_of_one signer traced w e = append-nil (event_text traced w (moved signer e.0 e.1 w))

-- ---- one more event

world_after_one : (signer : SignerWords) (w : World) (e : Event) → world_after signer w (e ∷ []) ≡ (moved signer e.0 e.1 w).world
unfolding world_after
world_after_one signer w e = refl

pub world_of_more : (signer : SignerWords) (s : Scenario) (es : List Event) (e : Event) → world_of signer s (es ++ e ∷ []) ≡ (moved signer e.0 e.1 (world_of signer s es)).world
unfolding world_of
world_of_more signer s es e = world_of_both signer (first_of s) es (e ∷ []) ∙ world_after_one signer (world_after signer (first_of s) es) e

pub text_of_more : (signer : SignerWords) (traced : Bool) (s : Scenario) (es : List Event) (e : Event)
    → text_of signer traced s (es ++ e ∷ []) ≡ text_of signer traced s es ++ event_text traced (world_of signer s es) (moved signer e.0 e.1 (world_of signer s es))
unfolding text_of world_of
text_of_more signer traced s es e =
    let w : World = world_after signer (first_of s) es in
    ap (λ (l : List ℕ). echo s ++ l) (lines_of_both signer traced (first_of s) es (e ∷ []) ∙ ap (λ (l : List ℕ). lines_from signer traced (first_of s) es ++ l) (lines_of_one signer traced w e))
    ∙ sym (append_assoc (echo s) (lines_from signer traced (first_of s) es) (event_text traced w (moved signer e.0 e.1 w)))

-- ---- before the first

pub world_of_none : (signer : SignerWords) (s : Scenario) → world_of signer s [] ≡ first_of s
unfolding world_of world_after
world_of_none signer s = refl

pub text_of_none : (signer : SignerWords) (traced : Bool) (s : Scenario) → text_of signer traced s [] ≡ echo s
unfolding text_of lines_from
text_of_none signer traced s = append-nil (echo s)

-- ---- the first events

-- the first i events
abbrev pub first_events : List said.Event → ℕ → List Event
first_events items i = map event_of (take i items)

pub first_more : (items : List said.Event) (i : ℕ) (e : said.Event) → i < length items → e ≡ get_or items i e → first_events items (i + 1) ≡ first_events items i ++ event_of e ∷ []
first_more items i e within is =
    ap (map event_of) (take_more items i e within ∙ ap (λ (x : said.Event). take i items ++ x ∷ []) (sym is)) ∙ map-append event_of (take i items) (e ∷ [])

pub are_first : (s : Scenario) (items : List said.Event) (i : ℕ) → items ≡ s.events → AreFirst (first_events items i) s
unfolding events_of
are_first s items i same =
    (map event_of (drop i items), sym (map-append event_of (take i items) (drop i items)) ∙ ap (map event_of) (take-append-drop i items ∙ same))

-- and the next one behind them
pub next_is : (s : Scenario) (items : List said.Event) (i : ℕ) (e : said.Event) → items ≡ s.events → i < length items → e ≡ get_or items i e → first_events items i ++ event_of e ∷ map event_of (drop (i + 1) items) ≡ events_of s
unfolding events_of
next_is s items i e same within is =
    let behind : drop i items ≡ e ∷ drop (i + 1) items = drop_more items i e within ∙ ap (λ (x : said.Event). x ∷ drop (i + 1) items) (sym is) in
    ap (λ (l : List said.Event). map event_of (take i items) ++ map event_of l) (sym behind)
    ∙ sym (map-append event_of (take i items) (drop i items)) ∙ ap (map event_of) (take-append-drop i items ∙ same)

-- ---- a front of the transcript

text_of_both : (signer : SignerWords) (traced : Bool) (s : Scenario) (es fs : List Event) → text_of signer traced s (es ++ fs) ≡ text_of signer traced s es ++ lines_from signer traced (world_of signer s es) fs
unfolding text_of world_of
text_of_both signer traced s es fs =
    ap (λ (l : List ℕ). echo s ++ l) (lines_of_both signer traced (first_of s) es fs)
    ∙ sym (append_assoc (echo s) (lines_from signer traced (first_of s) es) (lines_from signer traced (world_after signer (first_of s) es) fs))

-- the lines of the first events are one
pub text_is_front : (signer : SignerWords) (traced : Bool) (s : Scenario) (es : List Event) → AreFirst es s → (rest : List ℕ) × (text_of signer traced s es ++ rest ≡ transcript signer traced s)
unfolding transcript
text_is_front signer traced s es first =
    let later = lines_from signer traced (world_of signer s es) first.0 in
    let end = end_text (world_of signer s (events_of s)) in (
      later ++ end,
      sym (append_assoc (text_of signer traced s es) later end)
          ∙ ap (λ (l : List ℕ). l ++ end) (sym (text_of_both signer traced s es first.0) ∙ ap (text_of signer traced s) first.1),
    )
