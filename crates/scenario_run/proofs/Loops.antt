-- What the loop over the events keeps.
use Rattle.std.proofs.Common.{◌≡◌, ℕ, zero, suc, ◌+◌, ◌*◌, ◌<◌, ◌≤◌, ◌^◌, List, [], ◌∷◌, ◌++◌, length, get_or, drop, map, Bool, refl, ap, sym, subst, ◌∙◌, append_assoc, append-nil, arith}
use Rattle.std.specs.List.{AllByRecursion}
use Rattle.std.proofs.lemmas.List.{take_all}
use Rattle.reload_base.specs.Outside.{AirView, Adds, size_of}
use Rattle.reload_base.specs.declared.air.AirFrame.{AirFrame}
use Rattle.reload_base.specs.Whole.{StopsWriting}
use Rattle.reload_base.specs.declared.writing.WriteError.{WriteError}
use Rattle.reload_base.proofs.Pieces.{Adds-none, Adds-then}
use Rattle.node_messages.specs.Signed.{SignerWords}
use Rattle.run_model.specs.declared.limits.TheConstants.{MAX_AIR}
use Rattle.run_model.specs.Worlds.{World, first_world}
use Rattle.run_model.specs.Moves.{moved}
use Rattle.run_model.specs.Stops.{frames_in}
use Rattle.overlay_world.specs.declared.fault.StepFault.{StepFault}
use Rattle.overlay_world.specs.Steps.{IsInTime}
use Rattle.overlay_laws.specs.Bytes.{AreAllBytes}
use Rattle.overlay_laws.proofs.Times.{IsSlow, moved_slowly}
use Rattle.scenario_text.specs.declared.lines.clock.TheConstants.{MAX_CLOCK}
use Rattle.scenario_text.specs.declared.scenario.Scenario.{Scenario}
use Rattle.scenario_text.specs.declared.scenario.Event as said
use Rattle.scenario_text.specs.declared.scenario.EventKind.{EventKind}
use Rattle.scenario_text.specs.declared.scenario.EventKind.TheVariants.{Clock, Deliver, Lose, Drain, Store, Fetch}
use Rattle.scenario_text.specs.Sayings.{IsEvent}
use Rattle.scenario_text.specs.Scenarios.{IsScenario, IsEventOf}
use Rattle.scenario_text.specs.Echo.{echo}
use Rattle.scenario_moves.specs.Moves.{move_of}
use Rattle.scenario_run.specs.declared.fault.RunFault.TheVariants as faults
use Rattle.scenario_run.specs.Runs.{event_of, events_of, first_of, world_of, AreFirst}
use Rattle.scenario_run.specs.Texts.{event_text, text_of, end_text, transcript}
use Rattle.scenario_run.specs.Outcomes.{Outlets, Sends, Breaks, Completes}
use Rattle.scenario_run.specs.Broken.{EventStops, of_step, of_write}
use Rattle.scenario_run.proofs.Behind.{first_events, first_more, are_first, next_is, world_of_more, text_of_more, world_of_none, text_of_none, text_is_front}
use Rattle.scenario_run.proofs.Laws.{one_map}
use Rattle.scenario_run.proofs.Stops.{Before, sends_then, memory_breaks, write_breaks, step_breaks}

-- the first i events were run
pub record At (signer : SignerWords) (traced : Bool) (s : Scenario) (items : List said.Event) (i : ℕ) (w : World) (before after : Outlets) : Type 0 where
  pub world : w ≡ world_of signer s (first_events items i)
  pub adds : Adds before.sink after.sink (text_of signer traced s (first_events items i))
  pub sends : Sends before.air after.air w
  pub room : size_of after.air.sent ≤ MAX_AIR
  pub clock : w.clock ≤ MAX_CLOCK * i
  pub bytes : AreAllBytes w

-- ---- the beginning

no_frames : (s : Scenario) → frames_in (first_of s) ≡ []
unfolding first_of first_world frames_in
no_frames s = refl

no_bytes : (s : Scenario) → AreAllBytes (first_of s)
unfolding first_of first_world
no_bytes s = tt

no_clock : (s : Scenario) → (first_of s).clock ≡ 0
unfolding first_of first_world
no_clock s = refl

no_size : size_of [] ≤ MAX_AIR
unfolding size_of
no_size = omega arith

none_first : (s : Scenario) → AreFirst [] s
none_first s = (events_of s, refl)

first_bytes : (signer : SignerWords) (s : Scenario) → AreAllBytes (world_of signer s [])
first_bytes signer s = rw (world_of_none signer s) (no_bytes s)

first_sends : (signer : SignerWords) (s : Scenario) (air : AirView) → air.sent ≡ [] → Sends air air (first_of s)
first_sends signer s air empty = ap (λ (l : List AirFrame). let b : AirView = record air { sent = l } in b) (empty ∙ sym (no_frames s))

-- ---- before the first event

-- what stands behind the declarations
echo_front : (signer : SignerWords) (traced : Bool) (s : Scenario) → (rest : List ℕ) × (echo s ++ rest ≡ transcript signer traced s)
echo_front signer traced s =
    let front = text_is_front signer traced s [] (none_first s) in
    (front.0, ap (λ (l : List ℕ). l ++ front.0) (sym (text_of_none signer traced s)) ∙ front.1)

no_sends : (signer : SignerWords) (s : Scenario) (before after : Outlets) → before.air.sent ≡ [] → after.air ≡ before.air → Sends before.air after.air (world_of signer s [])
no_sends signer s before after empty same = rw (world_of_none signer s) (same ∙ first_sends signer s before.air empty)

-- writing stopped in the declarations
pub breaks_echo : (signer : SignerWords) (traced : Bool) (s : Scenario) (before after : Outlets) (error : WriteError) → IsScenario s → before.air.sent ≡ [] → after.air ≡ before.air → StopsWriting before.sink after.sink (echo s) error
    → Breaks signer traced s before after (of_write error)
breaks_echo signer traced s before after error is empty same stops =
    let front = echo_front signer traced s in
    write_breaks signer traced s [] before after before.sink [] (echo s) front.0 error is (none_first s) (first_bytes signer s) (no_sends signer s before after empty same) front.1 (Adds-none before.sink) stops

-- memory was missing for the world
pub breaks_world : (signer : SignerWords) (traced : Bool) (s : Scenario) (before after : Outlets) → IsScenario s → before.air.sent ≡ [] → after.air ≡ before.air → Adds before.sink after.sink (echo s)
    → Breaks signer traced s before after faults.NoMemory
breaks_world signer traced s before after is empty same adds =
    let front = echo_front signer traced s in
    memory_breaks signer traced s [] before after (echo s) front.0 is (none_first s) (first_bytes signer s) (no_sends signer s before after empty same) front.1 adds

-- the loop begins
pub starts : (signer : SignerWords) (traced : Bool) (s : Scenario) (items : List said.Event) (w : World) (before after : Outlets) → w ≡ first_of s → before.air.sent ≡ [] → after.air ≡ before.air → Adds before.sink after.sink (echo s) → At signer traced s items 0 w before after
starts signer traced s items w before after is empty same adds = record {
  world = is ∙ sym (world_of_none signer s);
  adds = rw (text_of_none signer traced s) adds;
  sends = rw is (same ∙ first_sends signer s before.air empty);
  room = rw (ap (λ (a : AirView). size_of a.sent) same ∙ ap size_of empty) no_size;
  clock = rw (ap (λ (v : World). v.clock) is ∙ no_clock s) (omega arith);
  bytes = rw is (no_bytes s);
}

-- ---- an event

-- each event of a scenario is within its limits
event_in : (s : Scenario) (es : List said.Event) (i : ℕ) (e : said.Event) → AllByRecursion (IsEventOf s.nodes) es → i < length es → IsEvent (get_or es i e).what
event_in s [] i e all within = absurd (omega arith)
event_in s (x ∷ es) zero e all within = all.0.0
event_in s (x ∷ es) (suc i) e all within = event_in s es i e all.1 (omega arith)

event_at : (s : Scenario) (items : List said.Event) (i : ℕ) (e : said.Event) → IsScenario s → items ≡ s.events → i < length items → e ≡ get_or items i e → IsEvent e.what
event_at s items i e is same within at =
    let all = subst (λ (es : List said.Event). AllByRecursion (IsEventOf s.nodes) es) (sym same) is.begun.events in
    subst (λ (x : said.Event). IsEvent x.what) (sym at) (event_in s items i e all within)

slow : (what : EventKind) → IsEvent what → IsSlow MAX_CLOCK (move_of what)
slow (Clock ms) is = is.1
slow (Deliver k) is = tt
slow (Lose k) is = tt
slow (Drain n) is = tt
slow (Store e) is = tt
slow (Fetch e) is = tt

timely : (what : EventKind) (w : World) (i : ℕ) → IsEvent what → i < 2 ^ 31 → w.clock ≤ MAX_CLOCK * i → IsInTime (move_of what) w
timely (Clock ms) w i is few clock = omega (arith, is.1)
timely (Deliver k) w i is few clock = tt
timely (Lose k) w i is few clock = tt
timely (Drain n) w i is few clock = tt
timely (Store e) w i is few clock = tt
timely (Fetch e) w i is few clock = tt

-- the clock stays within its bounds in the next event
pub in_time : (signer : SignerWords) (traced : Bool) (s : Scenario) (items : List said.Event) (i : ℕ) (e : said.Event) (w : World) (before after : Outlets) → IsScenario s → length s.events < 2 ^ 31 → items ≡ s.events → i < length items → e ≡ get_or items i e
    → At signer traced s items i w before after → IsInTime (move_of e.what) w
in_time signer traced s items i e w before after is few same within at inv =
    let n : length items ≡ length s.events = ap (λ (l : List said.Event). length l) same in
    timely e.what w i (event_at s items i e is same within at) (omega (arith, n)) inv.clock

-- one more event was run
pub goes_on : (signer : SignerWords) (traced : Bool) (s : Scenario) (items : List said.Event) (i : ℕ) (e : said.Event) (w v : World) (before mid after : Outlets) → IsScenario s → items ≡ s.events → i < length items → e ≡ get_or items i e
    → At signer traced s items i w before mid
    → v ≡ (moved signer e.line (move_of e.what) w).world → Sends mid.air after.air (moved signer e.line (move_of e.what) w).world → size_of after.air.sent ≤ MAX_AIR → AreAllBytes v
    → Adds mid.sink after.sink (event_text traced w (moved signer e.line (move_of e.what) w)) → At signer traced s items (i + 1) v before after
goes_on signer traced s items i e w v before mid after is same within at inv moves sends room bytes adds =
    let front = first_events items i in
    let more = first_more items i e within at in
    let world : v ≡ world_of signer s (front ++ event_of e ∷ []) =
    moves ∙ ap (λ (x : World). (moved signer e.line (move_of e.what) x).world) inv.world ∙ sym (world_of_more signer s front (event_of e)) in
    let text : text_of signer traced s front ++ event_text traced w (moved signer e.line (move_of e.what) w) ≡ text_of signer traced s (front ++ event_of e ∷ []) =
    ap (λ (x : World). text_of signer traced s front ++ event_text traced x (moved signer e.line (move_of e.what) x)) inv.world ∙ sym (text_of_more signer traced s front (event_of e)) in
    let slowly = moved_slowly signer e.line MAX_CLOCK (move_of e.what) w (slow e.what (event_at s items i e is same within at)) in
    record {
      world = world ∙ ap (world_of signer s) (sym more);
      adds = rw more (subst (Adds before.sink after.sink) text (Adds-then before.sink mid.sink after.sink (text_of signer traced s front) (event_text traced w (moved signer e.line (move_of e.what) w)) inv.adds adds));
      sends = rw moves (sends_then before.air mid.air after.air w (moved signer e.line (move_of e.what) w).world inv.sends sends);
      room = room;
      clock = rw moves (omega (arith, slowly, inv.clock));
      bytes = bytes;
    }

-- ---- what stops the loop

before_event : (signer : SignerWords) (traced : Bool) (s : Scenario) (items : List said.Event) (i : ℕ) (e : said.Event) (w : World) (before mid : Outlets) → IsScenario s → items ≡ s.events → i < length items → e ≡ get_or items i e
    → At signer traced s items i w before mid → Before signer traced s (first_events items i) (event_of e) w before mid
before_event signer traced s items i e w before mid is same within at inv =
    let front = first_events items i in
    let rest = text_is_front signer traced s front (are_first s items i same) in
    record {
      scenario = is;
      later = map event_of (drop (i + 1) items);
      whole = next_is s items i e same within at;
      are = are_first s items i same;
      next = rw (first_more items i e within at) at (are_first s items (i + 1) same);
      world = inv.world;
      after = ap (λ (x : World). (moved signer e.line (move_of e.what) x).world) inv.world ∙ sym (world_of_more signer s front (event_of e));
      bytes = rw inv.world at inv.bytes;
      sends = rw inv.world at inv.sends;
      adds = inv.adds;
      rest = rest.0;
      front = rest.1;
    }

-- an event stopped
pub breaks_in : (signer : SignerWords) (traced : Bool) (s : Scenario) (items : List said.Event) (i : ℕ) (e : said.Event) (w : World) (before mid after : Outlets) (fault : StepFault) → IsScenario s → items ≡ s.events → i < length items → e ≡ get_or items i e
    → At signer traced s items i w before mid → EventStops signer w (event_of e) mid.air after.air fault → after.sink ≡ mid.sink → Breaks signer traced s before after (of_step fault)
breaks_in signer traced s items i e w before mid after fault is same within at inv stops sink =
    step_breaks signer traced s (first_events items i) (event_of e) w before mid after fault (before_event signer traced s items i e w before mid is same within at inv) stops sink

-- writing stopped in the lines of an event
pub breaks_lines : (signer : SignerWords) (traced : Bool) (s : Scenario) (items : List said.Event) (i : ℕ) (e : said.Event) (w v : World) (before mid after : Outlets) (error : WriteError) → IsScenario s → items ≡ s.events → i < length items → e ≡ get_or items i e
    → At signer traced s items i w before mid
    → v ≡ (moved signer e.line (move_of e.what) w).world → Sends mid.air after.air (moved signer e.line (move_of e.what) w).world → AreAllBytes v
    → StopsWriting mid.sink after.sink (event_text traced w (moved signer e.line (move_of e.what) w)) error → Breaks signer traced s before after (of_write error)
breaks_lines signer traced s items i e w v before mid after error is same within at inv moves sends bytes stops =
    let front = first_events items i in
    let b = before_event signer traced s items i e w before mid is same within at inv in
    let next = front ++ event_of e ∷ [] in
    let rest = text_is_front signer traced s next b.next in
    let piece = event_text traced w (moved signer e.line (move_of e.what) w) in
    let text : text_of signer traced s next ≡ text_of signer traced s front ++ piece =
    text_of_more signer traced s front (event_of e) ∙ sym (ap (λ (x : World). text_of signer traced s front ++ event_text traced x (moved signer e.line (move_of e.what) x)) inv.world) in
    let whole : text_of signer traced s front ++ (piece ++ rest.0) ≡ transcript signer traced s =
    sym (append_assoc (text_of signer traced s front) piece rest.0) ∙ ap (λ (l : List ℕ). l ++ rest.0) (sym text) ∙ rest.1 in
    let world : v ≡ world_of signer s next = moves ∙ b.after in
    write_breaks signer traced s next before after mid.sink (text_of signer traced s front) piece rest.0 error is b.next
    (rw world at bytes) (rw b.after at (sends_then before.air mid.air after.air w (moved signer e.line (move_of e.what) w).world inv.sends sends)) whole inv.adds stops

-- ---- the end

all_first : (s : Scenario) (items : List said.Event) (i : ℕ) → items ≡ s.events → length items ≤ i → first_events items i ≡ events_of s
unfolding events_of
all_first s items i same past = ap (map event_of) (take_all i items past ∙ same)

-- what a run has done before its end
pub record Ended (signer : SignerWords) (traced : Bool) (s : Scenario) (w : World) (before after : Outlets) : Type 0 where
  pub scenario : IsScenario s
  pub are : AreFirst (events_of s) s
  pub world : w ≡ world_of signer s (events_of s)
  pub bytes : AreAllBytes (world_of signer s (events_of s))
  pub sends : Sends before.air after.air (world_of signer s (events_of s))
  pub adds : Adds before.sink after.sink (text_of signer traced s (events_of s))
  pub whole : text_of signer traced s (events_of s) ++ end_text w ≡ transcript signer traced s

pub ended : (signer : SignerWords) (traced : Bool) (s : Scenario) (items : List said.Event) (i : ℕ) (w : World) (before after : Outlets) → IsScenario s → items ≡ s.events → length items ≤ i → At signer traced s items i w before after → Ended signer traced s w before after
unfolding transcript
ended signer traced s items i w before after is same past inv =
    let all = all_first s items i same past in
    let world : w ≡ world_of signer s (events_of s) = inv.world ∙ ap (world_of signer s) all in
    record {
      scenario = is;
      are = ([], append-nil (events_of s));
      world = world;
      bytes = rw world at inv.bytes;
      sends = rw world at inv.sends;
      adds = rw all at inv.adds;
      whole = ap (λ (x : World). text_of signer traced s (events_of s) ++ end_text x) world;
    }

-- writing stopped in the end
pub breaks_last : (signer : SignerWords) (traced : Bool) (s : Scenario) (w : World) (before mid after : Outlets) (error : WriteError) → Ended signer traced s w before mid → after.air ≡ mid.air → StopsWriting mid.sink after.sink (end_text w) error
    → Breaks signer traced s before after (of_write error)
breaks_last signer traced s w before mid after error e same stops =
    let whole = ap (λ (l : List ℕ). text_of signer traced s (events_of s) ++ l) (append-nil (end_text w)) ∙ e.whole in
    write_breaks signer traced s (events_of s) before after mid.sink (text_of signer traced s (events_of s)) (end_text w) [] error e.scenario e.are e.bytes (same ∙ e.sends) whole e.adds stops

-- the end was written
pub completes : (signer : SignerWords) (traced : Bool) (s : Scenario) (w : World) (before mid after : Outlets) → Ended signer traced s w before mid → after.air ≡ mid.air → Adds mid.sink after.sink (end_text w) → Completes signer traced s before after
completes signer traced s w before mid after e same adds = record {
  written = subst (Adds before.sink after.sink) e.whole (Adds-then before.sink mid.sink after.sink (text_of signer traced s (events_of s)) (end_text w) e.adds adds);
  sent = same ∙ e.sends;
  one_map = one_map signer s (events_of s) e.scenario e.bytes;
}
