-- A frame that comes to its node, and a node that handles something.
use Rattle.std.proofs.Common.{◌≡◌, ℕ, ◌-◌, ◌≤◌, List, [], ◌∷◌, ◌++◌, true, false, cond, map, refl, sym, ap, subst, ◌∙◌, arith}
use Rattle.std.specs.Prelude.{Option, Some, None, All, slice_get, slice_set}
use Rattle.std.specs.Option.{option_map, option_map_or, option_and_then}
use Rattle.std.specs.Ordering.{nat_cmp}
use Rattle.std.specs.FinMap.{FinMap, get, insert}
use Rattle.std.proofs.lemmas.List.{map-append}
use Rattle.std.proofs.lemmas.Option.{same_Some}
use Rattle.reload_ids.specs.declared.NodeId.{NodeId}
use Rattle.reload_base.specs.declared.air.AirFrame.{AirFrame}
use Rattle.reload_base.specs.Outside.{AirView}
use Rattle.node_messages.specs.Signed.{SignerWords}
use Rattle.node_model.specs.declared.input.Outputs.{Outputs}
use Rattle.node_model.specs.declared.limits.TheConstants.{MAX_LOAD}
use Rattle.node_model.specs.Nodes.{Cause, Framed}
use Rattle.run_model.specs.declared.flight.Flight.{Flight}
use Rattle.run_model.specs.declared.flight.Fate.TheVariants.{Delivered, Lost}
use Rattle.run_model.specs.declared.happening.Happening.{Happening}
use Rattle.run_model.specs.declared.happening.Happening.TheVariants.{Tells, NoSuchFrame}
use Rattle.run_model.specs.declared.moves.Move.TheVariants.{Deliver}
use Rattle.run_model.specs.Worlds.{World, Actor, Done, quiet, refused, acts, flight_of, after_step, handled, node_of}
use Rattle.run_model.specs.Moves.{with_fate, is_waiting, is_hearing, flown, flown_at, is_frame, delivered, lost_at, lost, drained}
use Rattle.run_model.specs.Stops.{air_frame, frames_in, load_of, hearer_at, IsNodeFull}
use Rattle.run_text.specs.Lines.{happened_text}
use Rattle.overlay_world.specs.declared.fault.StepFault.{StepFault}
use Rattle.overlay_world.specs.declared.fault.StepFault.TheVariants.{LinkFault, AirFull, NodeFull, NoMemory}
use Rattle.overlay_world.specs.Sendings.{sent_by, HasBytes, with_frames, IsUnheard, IsFrontOf, Halts, IsNone, IsFullAt, IsHeavy}
use Rattle.overlay_world.specs.Standings.{Standing, world_in}
use Rattle.overlay_world.specs.Parts.{scene_of, IsSound, Does}
use Rattle.overlay_world.proofs.Airs.{same_air, halts_same, halts_wider}
use Rattle.overlay_world.proofs.Bytes.{acts_some}
use Rattle.overlay_world.proofs.Frames.{Adds, frames_fated, frames_lost, adds_flown_at}
use Rattle.overlay_world.proofs.Lines.{no_lines}

-- ---- a node that handles something

-- the nodes afterwards, by what an input makes of the one with a number
abbrev pub actors_after : SignerWords → ℕ → Cause → World → FinMap nat_cmp Actor
actors_after words n cause w = option_map_or (λ a. insert w.actors n (acts words w.clock cause a).node) (get w.actors n) w.actors

-- what that node puts out
abbrev pub outputs_of : SignerWords → ℕ → Cause → World → Option Outputs
outputs_of words n cause w = option_map (λ a. (acts words w.clock cause a).outputs) (get w.actors n)

-- a node put these out
abbrev pub put_out : ℕ → World → FinMap nat_cmp Actor → Outputs → Done
put_out n w actors out = record {
  world = record w { actors = actors; flights = w.flights ++ map (flight_of w.names n) out.frames };
  happened = map (Tells n) out.notices;
}

handled_at : (words : SignerWords) (n : ℕ) (cause : Cause) (w : World) (actors : FinMap nat_cmp Actor) (out : Outputs) (o : Option Actor)
    → Some out ≡ option_map (λ a. (acts words w.clock cause a).outputs) o
    → actors ≡ option_map_or (λ a. insert w.actors n (acts words w.clock cause a).node) o w.actors
    → option_map_or (λ a. after_step n w (acts words w.clock cause a)) o (quiet w) ≡ put_out n w actors out
unfolding after_step
handled_at words n cause w actors out None puts is = absurd (cc)
handled_at words n cause w actors out (Some a) puts is =
    let same : (acts words w.clock cause a).outputs ≡ out = sym (same_Some out (acts words w.clock cause a).outputs puts) in
    ap (λ (x : Outputs). put_out n w (insert w.actors n (acts words w.clock cause a).node) x) same ∙ ap (λ (m : FinMap nat_cmp Actor). put_out n w m out) (sym is)

-- a node that is there handled an input
pub handled_is : (words : SignerWords) (n : ℕ) (cause : Cause) (w : World) (actors : FinMap nat_cmp Actor) (out : Outputs) → Some out ≡ outputs_of words n cause w → actors ≡ actors_after words n cause w → handled words n cause w ≡ put_out n w actors out
unfolding handled
handled_is words n cause w actors out puts is = handled_at words n cause w actors out (get w.actors n) puts is

quiet_at : (words : SignerWords) (n : ℕ) (cause : Cause) (w : World) (actors : FinMap nat_cmp Actor) (o : Option Actor)
    → None ≡ option_map (λ a. (acts words w.clock cause a).outputs) o
    → actors ≡ option_map_or (λ a. insert w.actors n (acts words w.clock cause a).node) o w.actors
    → option_map_or (λ a. after_step n w (acts words w.clock cause a)) o (quiet w) ≡ quiet (record w { actors = actors })
quiet_at words n cause w actors None puts is = ap (λ (m : FinMap nat_cmp Actor). quiet (record w { actors = m })) (sym is)
quiet_at words n cause w actors (Some a) puts is = absurd (cc)

-- there is no such node
pub handled_none : (words : SignerWords) (n : ℕ) (cause : Cause) (w : World) (actors : FinMap nat_cmp Actor) → None ≡ outputs_of words n cause w → actors ≡ actors_after words n cause w → handled words n cause w ≡ quiet (record w { actors = actors })
unfolding handled
handled_none words n cause w actors puts is = quiet_at words n cause w actors (get w.actors n) puts is

some_at : (words : SignerWords) (now : ℕ) (cause : Cause) (out : Outputs) (o : Option Actor) → Some out ≡ option_map (λ a. (acts words now cause a).outputs) o → All HasBytes out.frames
some_at words now cause out None e = absurd (cc)
some_at words now cause out (Some a) e =
    let same : (acts words now cause a).outputs ≡ out = sym (same_Some out (acts words now cause a).outputs e) in
    subst (λ (x : Outputs). All HasBytes x.frames) same (acts_some words now cause a)

-- each frame that it sends has a byte
pub outputs_some : (words : SignerWords) (n : ℕ) (cause : Cause) (w : World) (out : Outputs) → Some out ≡ outputs_of words n cause w → All HasBytes out.frames
outputs_some words n cause w out e = some_at words w.clock cause out (get w.actors n) e

-- the frames of the world then
pub frames_put : (n : ℕ) (w : World) (actors : FinMap nat_cmp Actor) (out : Outputs) → frames_in (put_out n w actors out).world ≡ frames_in w ++ sent_by w.names n out.frames
unfolding frames_in
frames_put n w actors out = map-append air_frame w.flights (map (flight_of w.names n) out.frames)

-- the air then
pub air_put : (n : ℕ) (w : World) (actors : FinMap nat_cmp Actor) (out : Outputs) (d : Done) (old : AirView) → old.sent ≡ frames_in w → d ≡ put_out n w actors out
    → with_frames old (sent_by w.names n out.frames) ≡ record old { sent = frames_in d.world }
air_put n w actors out d old has is =
    ap (λ (l : List AirFrame). let a : AirView = record old { sent = l } in a)
    (ap (λ (l : List AirFrame). l ++ sent_by w.names n out.frames) has ∙ sym (frames_put n w actors out) ∙ ap (λ (x : Done). frames_in x.world) (sym is))

-- what stops its frames
pub put_halts : (n : ℕ) (w : World) (actors : FinMap nat_cmp Actor) (out : Outputs) (d : Done) (Full : ℕ → Type 0) (old new : AirView) (e : StepFault) → old.sent ≡ frames_in w → d ≡ put_out n w actors out
    → Halts (old.sent ++ sent_by w.names n out.frames) IsNone old new e → Halts (frames_in d.world) Full old new e
put_halts n w actors out d Full old new e has is h =
    halts_wider (frames_in d.world) IsNone Full old new e (λ number none. absurd none)
    (halts_same (old.sent ++ sent_by w.names n out.frames) (frames_in d.world) IsNone old new e
    (ap (λ (l : List AirFrame). l ++ sent_by w.names n out.frames) has ∙ sym (frames_put n w actors out) ∙ ap (λ (x : Done). frames_in x.world) (sym is)) h)

-- an air that has the frames of a world has the first of those that a part of an event leaves
pub front_before : (w : World) (d : Done) (air : AirView) → air.sent ≡ frames_in w → Adds w d → IsFrontOf air (frames_in d.world)
front_before w d air has adds = (adds.0, adds.1 ∙ ap (λ (l : List AirFrame). l ++ adds.0) (sym has))

-- what keeps an input from its node
pub heavy_halts : (n : ℕ) (w : World) (d : Done) (Full : ℕ → Type 0) (air : AirView) (e : StepFault) → air.sent ≡ frames_in w → Adds w d
    → ((number : ℕ) → IsHeavy n w number → Full number) → IsUnheard n (load_of (get w.actors n)) e → Halts (frames_in d.world) Full air air e
heavy_halts n w d Full air LinkFault has adds full h = absurd h
heavy_halts n w d Full air (AirFull b) has adds full h = absurd h
heavy_halts n w d Full air (NodeFull number) has adds full h =
    let load : MAX_LOAD ≤ load_of (get w.actors number) = subst (λ m. MAX_LOAD ≤ load_of (get w.actors m)) (sym h.0) h.1 in
    (front_before w d air has adds, refl, full number (h.0, load))
heavy_halts n w d Full air NoMemory has adds full h = (front_before w d air has adds, refl)

-- ---- a frame that comes to its node

flown_is : (words : SignerWords) (at : ℕ) (w : World) (f : Flight) → slice_get w.flights at ≡ Some f → flown_at words at w ≡ flown words at f w
unfolding flown_at
flown_is words at w f there = ap (λ o. option_map_or (λ f. flown words at f w) o (quiet w)) there

-- there is no such frame
pub flown_none : (words : SignerWords) (at : ℕ) (w : World) → slice_get w.flights at ≡ None → flown_at words at w ≡ quiet w
unfolding flown_at
flown_none words at w there = ap (λ o. option_map_or (λ f. flown words at f w) o (quiet w)) there

lost_is : (at : ℕ) (w : World) (f : Flight) → slice_get w.flights at ≡ Some f
    → lost_at at w ≡ record w { flights = cond (is_waiting f) (slice_set w.flights at (record f { fate = Lost })) w.flights }
unfolding lost_at
lost_is at w f there =
    ap (λ o. option_map_or (λ f. cond (is_waiting f) (with_fate Lost at f w) w) o w) there
    ∙ elim (is_waiting f) as (λ b. cond b (with_fate Lost at f w) w ≡ record w { flights = cond b (slice_set w.flights at (record f { fate = Lost })) w.flights }) [ true ↦ refl | false ↦ refl ]

-- no node hears it
pub flown_lost : (words : SignerWords) (at : ℕ) (w : World) (f : Flight) → slice_get w.flights at ≡ Some f → is_hearing (get w.actors f.hearer) ≡ false
    → flown_at words at w ≡ quiet (record w { flights = cond (is_waiting f) (slice_set w.flights at (record f { fate = Lost })) w.flights })
unfolding flown
flown_lost words at w f there deaf =
    flown_is words at w f there
    ∙ ap (λ b. cond b (option_map_or (λ from. handled words f.hearer (Framed from f.bytes) (with_fate Delivered at f w)) (node_of w.names f.sender) (quiet w)) (quiet (lost_at at w))) deaf
    ∙ ap quiet (lost_is at w f there)

-- its frames are the same then
pub frames_unheard : (at : ℕ) (w : World) (f : Flight) (flights : List Flight) → slice_get w.flights at ≡ Some f → flights ≡ cond (is_waiting f) (slice_set w.flights at (record f { fate = Lost })) w.flights
    → frames_in (let v : World = record w { flights = flights } in v) ≡ frames_in w
frames_unheard at w f flights there e =
    ap (λ (l : List Flight). let v : World = record w { flights = l } in frames_in v) e
    ∙ ap frames_in (sym (lost_is at w f there)) ∙ frames_lost at w

-- nobody knows who sent it
pub flown_unnamed : (words : SignerWords) (at : ℕ) (w : World) (f : Flight) → slice_get w.flights at ≡ Some f → is_hearing (get w.actors f.hearer) ≡ true → node_of w.names f.sender ≡ None → flown_at words at w ≡ quiet w
unfolding flown
flown_unnamed words at w f there hears named =
    flown_is words at w f there
    ∙ ap (λ b. cond b (option_map_or (λ from. handled words f.hearer (Framed from f.bytes) (with_fate Delivered at f w)) (node_of w.names f.sender) (quiet w)) (quiet (lost_at at w))) hears
    ∙ ap (λ o. option_map_or (λ from. handled words f.hearer (Framed from f.bytes) (with_fate Delivered at f w)) o (quiet w)) named

-- its node hears it
pub flown_heard : (words : SignerWords) (at : ℕ) (w : World) (f : Flight) (from : NodeId) → slice_get w.flights at ≡ Some f → is_hearing (get w.actors f.hearer) ≡ true → node_of w.names f.sender ≡ Some from
    → flown_at words at w ≡ handled words f.hearer (Framed from f.bytes) (with_fate Delivered at f w)
unfolding flown
flown_heard words at w f from there hears named =
    flown_is words at w f there
    ∙ ap (λ b. cond b (option_map_or (λ from. handled words f.hearer (Framed from f.bytes) (with_fate Delivered at f w)) (node_of w.names f.sender) (quiet w)) (quiet (lost_at at w))) hears
    ∙ ap (λ o. option_map_or (λ from. handled words f.hearer (Framed from f.bytes) (with_fate Delivered at f w)) o (quiet w)) named

-- what keeps it from its node
pub fly_halts : (words : SignerWords) (at : ℕ) (w : World) (f : Flight) (air : AirView) (e : StepFault) → slice_get w.flights at ≡ Some f → is_hearing (get w.actors f.hearer) ≡ true → air.sent ≡ frames_in w
    → IsUnheard f.hearer (load_of (get w.actors f.hearer)) e → Halts (frames_in (flown_at words at w).world) (IsFullAt at w) air air e
unfolding hearer_at
fly_halts words at w f air e there hears has h =
    let next : hearer_at at w ≡ Some f.hearer =
    ap (λ o. option_and_then (λ (x : Flight). cond (is_hearing (get w.actors x.hearer)) (Some x.hearer) None) o) there
    ∙ ap (λ b. cond b (Some f.hearer) None) hears in
    heavy_halts f.hearer w (flown_at words at w) (IsFullAt at w) air e has (adds_flown_at words at w)
    (λ number g. (next ∙ ap (λ m. Some m) (sym g.0), g.1)) h

-- ---- frame K

pub delivered_is : (words : SignerWords) (line k : ℕ) (w : World) → is_frame k w ≡ true → delivered words line k w ≡ flown_at words (k - 1) w
unfolding delivered
delivered_is words line k w there = ap (λ b. cond b (flown_at words (k - 1) w) (refused w (NoSuchFrame line))) there

pub delivered_not : (words : SignerWords) (line k : ℕ) (w : World) → is_frame k w ≡ false → delivered words line k w ≡ refused w (NoSuchFrame line)
unfolding delivered
delivered_not words line k w there = ap (λ b. cond b (flown_at words (k - 1) w) (refused w (NoSuchFrame line))) there

pub deliver_halts : (words : SignerWords) (line k : ℕ) (w : World) (old new : AirView) (e : StepFault) → is_frame k w ≡ true
    → Halts (frames_in (flown_at words (k - 1) w).world) (IsFullAt (k - 1) w) old new e → Halts (frames_in (delivered words line k w).world) (IsNodeFull words (Deliver k) w) old new e
unfolding drained
deliver_halts words line k w old new e there h =
    let full : (number : ℕ) → IsFullAt (k - 1) w number → IsNodeFull words (Deliver k) w number = λ number g.
    (0, omega arith, ap (λ b. cond b (hearer_at (k - 1) w) None) there ∙ g.0, g.1) in
    halts_wider (frames_in (delivered words line k w).world) (IsFullAt (k - 1) w) (IsNodeFull words (Deliver k) w) old new e full
    (halts_same (frames_in (flown_at words (k - 1) w).world) (frames_in (delivered words line k w).world) (IsFullAt (k - 1) w) old new e
    (ap (λ (d : Done). frames_in d.world) (sym (delivered_is words line k w there))) h)

-- ---- the world then

-- a frame was heard, and its node put these out
pub heard_out : (words : SignerWords) (at : ℕ) (w : World) (f : Flight) (from : NodeId) (actors : FinMap nat_cmp Actor) (out : Outputs) → slice_get w.flights at ≡ Some f → is_hearing (get w.actors f.hearer) ≡ true → node_of w.names f.sender ≡ Some from
    → Some out ≡ outputs_of words f.hearer (Framed from f.bytes) w → actors ≡ actors_after words f.hearer (Framed from f.bytes) w
    → flown_at words at w ≡ put_out f.hearer (with_fate Delivered at f w) actors out
heard_out words at w f from actors out there hears named puts acted =
    flown_heard words at w f from there hears named ∙ handled_is words f.hearer (Framed from f.bytes) (with_fate Delivered at f w) actors out puts acted

nobody_at : (words : SignerWords) (now : ℕ) (cause : Cause) (o : Option Actor) → None ≡ option_map (λ a. (acts words now cause a).outputs) o → is_hearing o ≡ true → ⊥
nobody_at words now cause None e hears = absurd (cc)
nobody_at words now cause (Some a) e hears = absurd (cc)

-- a node that hears something is there
pub nobody : (words : SignerWords) (n : ℕ) (cause : Cause) (w : World) → None ≡ outputs_of words n cause w → is_hearing (get w.actors n) ≡ true → ⊥
nobody words n cause w e hears = nobody_at words w.clock cause (get w.actors n) e hears

-- frames have the same bytes then as before
pub fated_has : (at : ℕ) (w : World) (f : Flight) (air : AirView) → slice_get w.flights at ≡ Some f → air.sent ≡ frames_in w → air.sent ≡ frames_in (with_fate Delivered at f w)
fated_has at w f air there has = has ∙ sym (frames_fated Delivered at f w there)

-- a part of an event that sends and tells nothing
pub quiet_does : (d : Done) (s next : Standing) (air : AirView) (lines : List ℕ) → d ≡ quiet (world_in next air) → frames_in (world_in next air) ≡ frames_in (world_in s air) → IsSound (scene_of s air lines)
    → Does d (scene_of s air lines) (scene_of next air lines)
quiet_does d s next air lines is same sound = record {
  world = sym (ap (λ (x : Done). x.world) is);
  told = no_lines next.names lines ∙ ap (λ (x : Done). lines ++ happened_text x.world.names x.happened) (sym is);
  sent = same_air air (frames_in d.world) (sound.held ∙ sym same ∙ ap (λ (x : Done). frames_in x.world) (sym is));
  room = sound.room;
}

-- one in which a node put these out
pub out_world : (n : ℕ) (w : World) (actors : FinMap nat_cmp Actor) (out : Outputs) (d : Done) (flights : List Flight) → d ≡ put_out n w actors out → flights ≡ w.flights ++ map (flight_of w.names n) out.frames
    → record w { actors = actors; flights = flights } ≡ d.world
out_world n w actors out d flights is fly =
    ap (λ (l : List Flight). let v : World = record w { actors = actors; flights = l } in v) fly ∙ sym (ap (λ (x : Done). x.world) is)

pub out_told : (n : ℕ) (w : World) (actors : FinMap nat_cmp Actor) (out : Outputs) (d : Done) (before after : List ℕ) → d ≡ put_out n w actors out → after ≡ before ++ happened_text w.names (map (Tells n) out.notices)
    → after ≡ before ++ happened_text d.world.names d.happened
out_told n w actors out d before after is told = told ∙ sym (ap (λ (x : Done). before ++ happened_text x.world.names x.happened) is)

pub out_air : (n : ℕ) (w : World) (actors : FinMap nat_cmp Actor) (out : Outputs) (d : Done) (old new : AirView) → d ≡ put_out n w actors out → old.sent ≡ frames_in w → new ≡ with_frames old (sent_by w.names n out.frames)
    → new ≡ record old { sent = frames_in d.world }
out_air n w actors out d old new is has sent = sent ∙ air_put n w actors out d old has is

-- an event that is refused
pub refusal_does : (d : Done) (s : Standing) (air : AirView) (before after : List ℕ) (why : Happening) → d ≡ refused (world_in s air) why → IsSound (scene_of s air before) → after ≡ before ++ happened_text s.names (why ∷ [])
    → Does d (scene_of s air before) (scene_of s air after)
refusal_does d s air before after why is sound told = record {
  world = sym (ap (λ (x : Done). x.world) is);
  told = told ∙ sym (ap (λ (x : Done). before ++ happened_text x.world.names x.happened) is);
  sent = same_air air (frames_in d.world) (sound.held ∙ ap (λ (x : Done). frames_in x.world) (sym is));
  room = sound.room;
}

-- ---- a frame that is lost

pub lost_not : (line k : ℕ) (w : World) → is_frame k w ≡ false → lost line k w ≡ refused w (NoSuchFrame line)
unfolding lost
lost_not line k w there = ap (λ b. cond b (quiet (lost_at (k - 1) w)) (refused w (NoSuchFrame line))) there

pub lost_there : (line k : ℕ) (w : World) → is_frame k w ≡ true → lost line k w ≡ quiet (lost_at (k - 1) w)
unfolding lost
lost_there line k w there = ap (λ b. cond b (quiet (lost_at (k - 1) w)) (refused w (NoSuchFrame line))) there

-- the flights then
pub lost_world : (line k : ℕ) (w : World) (flights : List Flight) (f : Flight) → is_frame k w ≡ true → slice_get w.flights (k - 1) ≡ Some f
    → flights ≡ cond (is_waiting f) (slice_set w.flights (k - 1) (record f { fate = Lost })) w.flights
    → record w { flights = flights } ≡ (lost line k w).world
lost_world line k w flights f sent there lose =
    ap (λ (l : List Flight). let v : World = record w { flights = l } in v) lose ∙ sym (lost_is (k - 1) w f there) ∙ sym (ap (λ (d : Done). d.world) (lost_there line k w sent))
