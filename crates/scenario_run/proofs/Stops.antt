-- What a run has done when it stops.
use Rattle.std.proofs.Common.{◌≡◌, ℕ, List, [], ◌∷◌, ◌++◌, length, Bool, ap, sym, subst, ◌∙◌, inl, inr, arith}
use Rattle.std.proofs.lemmas.List.{take_all}
use Rattle.reload_base.specs.Outside.{SinkView, AirView, Adds, raised}
use Rattle.reload_base.specs.Whole.{StopsWriting}
use Rattle.reload_base.specs.declared.writing.WriteError.{WriteError}
use Rattle.reload_base.specs.declared.writing.WriteError.TheVariants as write_error
use Rattle.reload_base.proofs.Pieces.{Stops-behind}
use Rattle.node_messages.specs.Signed.{SignerWords}
use Rattle.run_model.specs.Worlds.{World}
use Rattle.run_model.specs.Moves.{moved}
use Rattle.run_model.specs.Stops.{frames_in}
use Rattle.run_model.specs.Runs.{Event}
use Rattle.overlay_world.specs.declared.fault.StepFault.{StepFault}
use Rattle.overlay_world.specs.declared.fault.StepFault.TheVariants as step_fault
use Rattle.overlay_world.specs.Stopped.{HasFront, Stops}
use Rattle.overlay_laws.specs.Bytes.{AreAllBytes}
use Rattle.scenario_text.specs.declared.scenario.Scenario.{Scenario}
use Rattle.scenario_text.specs.Scenarios.{IsScenario}
use Rattle.scenario_run.specs.declared.fault.RunFault.TheVariants as faults
use Rattle.scenario_run.specs.Runs.{events_of, world_of, AreFirst}
use Rattle.scenario_run.specs.Texts.{text_of, transcript}
use Rattle.scenario_run.specs.Outcomes.{Outlets, Sends, SendsSome, StopsBehind, Breaks}
use Rattle.scenario_run.specs.Broken.{EventStops, IsUntold, of_step, of_write}
use Rattle.scenario_run.proofs.Laws.{one_map}

-- ---- airs

-- an air that has all frames has the first ones
pub all_are_front : (old new : AirView) (w : World) → Sends old new w → HasFront new w
all_are_front old new w sends =
    let sent : new.sent ≡ frames_in w = ap (λ (a : AirView). a.sent) sends in
    (length (frames_in w), sent ∙ sym (take_all (length (frames_in w)) (frames_in w) (omega arith)))

pub faults_stay : (old new : AirView) (w : World) → Sends old new w → new.faults ≡ old.faults
faults_stay old new w sends = ap (λ (a : AirView). a.faults) sends

-- frames that are sent behind others
pub sends_then : (old mid new : AirView) (v w : World) → Sends old mid v → Sends mid new w → Sends old new w
sends_then old mid new v w first second = second ∙ ap (λ (a : AirView). let b : AirView = record a { sent = frames_in w } in b) first

sends_some : (signer : SignerWords) (s : Scenario) (first : List Event) (old new : AirView) → AreFirst first s → Sends old new (world_of signer s first) → SendsSome signer s old new
sends_some signer s first old new are sends =
    (first, are, all_are_front old new (world_of signer s first) sends, faults_stay old new (world_of signer s first) sends)

-- ---- memory was missing, or a write stopped

pub memory_breaks : (signer : SignerWords) (traced : Bool) (s : Scenario) (first : List Event) (before after : Outlets) (so_far rest : List ℕ) → IsScenario s → AreFirst first s → AreAllBytes (world_of signer s first)
    → Sends before.air after.air (world_of signer s first) → so_far ++ rest ≡ transcript signer traced s → Adds before.sink after.sink so_far → Breaks signer traced s before after faults.NoMemory
memory_breaks signer traced s first before after so_far rest is are bytes sends whole adds =
    (first, are, one_map signer s first is bytes, (sends_some signer s first before.air after.air are sends, (so_far, rest, whole, adds)))

pub write_breaks : (signer : SignerWords) (traced : Bool) (s : Scenario) (first : List Event) (before after : Outlets) (mid : SinkView) (so_far piece rest : List ℕ) (error : WriteError) → IsScenario s → AreFirst first s → AreAllBytes (world_of signer s first)
    → Sends before.air after.air (world_of signer s first) → so_far ++ (piece ++ rest) ≡ transcript signer traced s → Adds before.sink mid so_far → StopsWriting mid after.sink piece error → Breaks signer traced s before after (of_write error)
write_breaks signer traced s first before after mid so_far piece rest write_error.Failed is are bytes sends whole adds stops =
    (first, are, one_map signer s first is bytes, (sends, Stops-behind before.sink mid after.sink so_far piece rest (transcript signer traced s) write_error.Failed whole adds stops))
write_breaks signer traced s first before after mid so_far piece rest write_error.NoMemory is are bytes sends whole adds stops =
    (first, are, one_map signer s first is bytes, (sends_some signer s first before.air after.air are sends, Stops-behind before.sink mid after.sink so_far piece rest (transcript signer traced s) write_error.NoMemory whole adds stops))

-- ---- an event stopped

-- what stops an event counts from the faults alone that the air had before
stops_since : (signer : SignerWords) (line : ℕ) (e : Event) (w : World) (old mid new : AirView) (fault : StepFault) → mid.faults ≡ old.faults → Stops signer e.0 e.1 w mid new fault → Stops signer e.0 e.1 w old new fault
stops_since signer line e w old mid new step_fault.LinkFault same stops = (stops.0, stops.1 ∙ ap raised same)
stops_since signer line e w old mid new (step_fault.AirFull b) same stops = (stops.0, stops.1 ∙ same, stops.2, stops.3)
stops_since signer line e w old mid new (step_fault.NodeFull n) same stops = (stops.0, stops.1 ∙ same, stops.2)
stops_since signer line e w old mid new step_fault.NoMemory same stops = (stops.0, stops.1 ∙ same)

-- what a run has done before an event, of which it is told what follows
pub record Before (signer : SignerWords) (traced : Bool) (s : Scenario) (first : List Event) (e : Event) (w : World) (before mid : Outlets) : Type 0 where
  pub scenario : IsScenario s
  pub later : List Event
  pub whole : first ++ e ∷ later ≡ events_of s
  pub are : AreFirst first s
  pub next : AreFirst (first ++ e ∷ []) s
  pub world : w ≡ world_of signer s first
  pub after : (moved signer e.0 e.1 w).world ≡ world_of signer s (first ++ e ∷ [])
  pub bytes : AreAllBytes (world_of signer s first)
  pub sends : Sends before.air mid.air (world_of signer s first)
  pub adds : Adds before.sink mid.sink (text_of signer traced s first)
  pub rest : List ℕ
  pub front : text_of signer traced s first ++ rest ≡ transcript signer traced s

stops_behind : (signer : SignerWords) (traced : Bool) (s : Scenario) (first : List Event) (e : Event) (w : World) (before mid after : Outlets) (fault : StepFault) → Before signer traced s first e w before mid
    → Stops signer e.0 e.1 w mid.air after.air fault → after.sink ≡ mid.sink → StopsBehind signer traced s first before after fault
stops_behind signer traced s first e w before mid after fault b stops same =
    let at = subst (λ (v : World). Stops signer e.0 e.1 v mid.air after.air fault) b.world stops in
    let since = stops_since signer e.0 e (world_of signer s first) before.air mid.air after.air fault (faults_stay before.air mid.air (world_of signer s first) b.sends) at in
    (e, b.later, b.whole, since, subst (λ (x : SinkView). Adds before.sink x (text_of signer traced s first)) (sym same) b.adds)

behind : (signer : SignerWords) (traced : Bool) (s : Scenario) (first : List Event) (e : Event) (w : World) (before mid : Outlets) (after : Outlets) (fault : StepFault) → Before signer traced s first e w before mid
    → Stops signer e.0 e.1 w mid.air after.air fault → after.sink ≡ mid.sink → Breaks signer traced s before after (of_step fault)
behind signer traced s first e w before mid after step_fault.LinkFault b stops same =
    (first, b.are, one_map signer s first b.scenario b.bytes, stops_behind signer traced s first e w before mid after step_fault.LinkFault b stops same)
behind signer traced s first e w before mid after (step_fault.AirFull n) b stops same =
    (first, b.are, one_map signer s first b.scenario b.bytes, stops_behind signer traced s first e w before mid after (step_fault.AirFull n) b stops same)
behind signer traced s first e w before mid after (step_fault.NodeFull n) b stops same =
    (first, b.are, one_map signer s first b.scenario b.bytes, stops_behind signer traced s first e w before mid after (step_fault.NodeFull n) b stops same)
behind signer traced s first e w before mid after step_fault.NoMemory b stops same =
    let front = subst (HasFront after.air) b.after stops.0 in
    let stay = stops.1 ∙ faults_stay before.air mid.air (world_of signer s first) b.sends in (
      first,
      b.are,
      one_map signer s first b.scenario b.bytes,
      (
        (first ++ e ∷ [], b.next, front, stay),
        (text_of signer traced s first, b.rest, b.front, subst (λ (x : SinkView). Adds before.sink x (text_of signer traced s first)) (sym same) b.adds),
      ),
    )

-- an event stopped in its world, or memory was missing before it
pub step_breaks : (signer : SignerWords) (traced : Bool) (s : Scenario) (first : List Event) (e : Event) (w : World) (before mid after : Outlets) (fault : StepFault) → Before signer traced s first e w before mid
    → EventStops signer w e mid.air after.air fault → after.sink ≡ mid.sink → Breaks signer traced s before after (of_step fault)
step_breaks signer traced s first e w before mid after fault b (inl stops) same = behind signer traced s first e w before mid after fault b stops same
step_breaks signer traced s first e w before mid after fault b (inr none) same =
    let sends = subst (λ (a : AirView). Sends before.air a (world_of signer s first)) (sym none.1) b.sends in
    let adds = subst (λ (x : SinkView). Adds before.sink x (text_of signer traced s first)) (sym same) b.adds in
    rw none.0 (memory_breaks signer traced s first before after (text_of signer traced s first) b.rest b.scenario b.are b.bytes sends b.front adds)

-- the lines of an event, whose frames were sent, weren't made
pub lines_stop : (signer : SignerWords) (w : World) (e : Event) (old mid new : AirView) (fault : StepFault) → Sends old mid (moved signer e.0 e.1 w).world → IsUntold mid new fault → EventStops signer w e old new fault
lines_stop signer w e old mid new step_fault.LinkFault sends untold =
    let front = all_are_front old mid (moved signer e.0 e.1 w).world sends in
    let sent : new.sent ≡ mid.sent = ap (λ (a : AirView). a.sent) untold in
    inl ((front.0, sent ∙ front.1), ap (λ (a : AirView). a.faults) untold ∙ ap raised (faults_stay old mid (moved signer e.0 e.1 w).world sends))
lines_stop signer w e old mid new (step_fault.AirFull b) sends untold = absurd untold
lines_stop signer w e old mid new (step_fault.NodeFull n) sends untold = absurd untold
lines_stop signer w e old mid new step_fault.NoMemory sends untold =
    let front = all_are_front old mid (moved signer e.0 e.1 w).world sends in
    let sent : new.sent ≡ mid.sent = ap (λ (a : AirView). a.sent) untold in
    inl ((front.0, sent ∙ front.1), ap (λ (a : AirView). a.faults) untold ∙ faults_stay old mid (moved signer e.0 e.1 w).world sends)
