-- Nodes that are told of the time, one after the other.
use Rattle.std.proofs.Common.{◌≡◌, ℕ, ◌+◌, ◌<◌, List, [], ◌∷◌, ◌++◌, length, map, take, drop, get_or, refl, sym, ap, subst, ◌∙◌}
use Rattle.std.specs.Prelude.{Some, Result, Ok, Err}
use Rattle.std.proofs.lemmas.List.{take_more, take-append-drop}
use Rattle.std.specs.FinMap.{entries}
use Rattle.std.proofs.lemmas.Option.{slice_get-get_or}
use Rattle.reload_base.specs.Outside.{AirView}
use Rattle.node_messages.specs.Signed.{SignerWords}
use Rattle.node_model.specs.Nodes.{Clocked}
use Rattle.run_model.specs.declared.moves.Move.TheVariants.{Clock}
use Rattle.run_model.specs.Worlds.{World, Done, then_on, handled, numbers_of, told_time}
use Rattle.run_model.specs.Moves.{gone_on, clocked}
use Rattle.run_model.specs.Stops.{frames_in, IsNodeFull}
use Rattle.run_text.specs.Lines.{happened_text}
use Rattle.overlay_world.specs.declared.fault.StepFault.{StepFault}
use Rattle.overlay_world.specs.Sendings.{Halts, IsHeavy, IsTellingFull}
use Rattle.overlay_world.specs.Parts.{Scene, world_of, IsSound, Does, Goes}
use Rattle.overlay_world.specs.Standings.{Standing, world_in}
use Rattle.overlay_world.proofs.Airs.{halts_more, halts_same, halts_since}
use Rattle.overlay_world.proofs.Frames.{Adds, adds_none, adds_both, adds_handled}
use Rattle.overlay_world.proofs.Flown.{quiet_does}
use Rattle.overlay_world.proofs.Lines.{names_handled}
use Rattle.overlay_world.proofs.Drained.{then_nothing, then_then, then_does}

-- ---- those of a list, and those of another one

pub told_add : (words : SignerWords) (ns ms : List ℕ) (w : World) → told_time words (ns ++ ms) w ≡ then_on (told_time words ns w) (told_time words ms)
unfolding told_time
told_add words [] ms w = refl
told_add words (n ∷ ns) ms w =
    let first : Done = handled words n Clocked w in
    ap (λ (d : Done). let x : Done = record { world = d.world; happened = first.happened ++ d.happened } in x) (told_add words ns ms first.world)
    ∙ then_then first (told_time words ns) (told_time words ms)

told_one : (words : SignerWords) (n : ℕ) (w : World) → told_time words (n ∷ []) w ≡ handled words n Clocked w
unfolding told_time
told_one words n w = then_nothing (handled words n Clocked w)

told_next : (words : SignerWords) (ns : List ℕ) (i d : ℕ) (w : World) → i < length ns
    → told_time words (take (i + 1) ns) w ≡ then_on (told_time words (take i ns) w) (handled words (get_or ns i d) Clocked)
told_next words ns i d w le =
    let before : Done = told_time words (take i ns) w in
    ap (λ ms. told_time words ms w) (take_more ns i d le) ∙ told_add words (take i ns) (get_or ns i d ∷ []) w
    ∙ ap (λ (x : Done). let y : Done = record { world = x.world; happened = before.happened ++ x.happened } in y) (told_one words (get_or ns i d) before.world)

adds_told : (words : SignerWords) (ns : List ℕ) (w : World) → Adds w (told_time words ns w)
unfolding told_time
adds_told words [] w = adds_none w w refl
adds_told words (n ∷ ns) w =
    let first : Done = handled words n Clocked w in
    adds_both w first (told_time words ns) (adds_handled words n Clocked w) (adds_told words ns first.world)

-- a move of the clock adds some frames
pub adds_clocked : (words : SignerWords) (ms : ℕ) (w : World) → Adds w (clocked words ms w)
unfolding clocked frames_in
adds_clocked words ms w =
    let told = adds_told words (numbers_of w) (gone_on ms w) in (told.0, told.1)

-- ---- on its way

-- none was told yet
pub told_none : (words : SignerWords) (before : Scene) → IsSound before → Does (told_time words [] (world_of before)) before before
unfolding told_time
told_none words before sound = quiet_does (told_time words [] (world_of before)) before.standing before.standing before.air before.lines refl refl sound

-- one more was told
pub next_told : (words : SignerWords) (ns : List ℕ) (i d : ℕ) (before mid after : Scene) → i < length ns → Does (told_time words (take i ns) (world_of before)) before mid
    → Does (handled words (get_or ns i d) Clocked (world_of mid)) mid after → Does (told_time words (take (i + 1) ns) (world_of before)) before after
next_told words ns i d before mid after le went one =
    let so_far = told_time words (take i ns) (world_of before) in
    let last = subst (λ (v : World). Does (handled words (get_or ns i d) Clocked v) mid after) went.world one in
    subst (λ (x : Done). Does x before after) (sym (told_next words ns i d (world_of before) le))
    (then_does so_far (handled words (get_or ns i d) Clocked) before mid after went last (names_handled words (get_or ns i d) Clocked so_far.world))

-- what stops the next one stops all
pub telling_halts : (words : SignerWords) (ns : List ℕ) (i d : ℕ) (before mid : Scene) (new : AirView) (e : StepFault) → i < length ns → Does (told_time words (take i ns) (world_of before)) before mid
    → Halts (frames_in (handled words (get_or ns i d) Clocked (world_of mid)).world) (IsHeavy (get_or ns i d) (world_of mid)) mid.air new e
    → Halts (frames_in (told_time words ns (world_of before)).world) (IsTellingFull words ns (world_of before)) before.air new e
telling_halts words ns i d before mid new e le went h =
    let start = world_of before in
    let n = get_or ns i d in
    let now = (told_time words (take i ns) start).world in
    let first = told_time words (take (i + 1) ns) start in
    let more = adds_told words (drop (i + 1) ns) first.world in
    let after : frames_in (handled words n Clocked now).world ≡ frames_in first.world = sym (ap (λ (x : Done). frames_in x.world) (told_next words ns i d start le)) in
    let whole : frames_in (told_time words ns start).world ≡ frames_in first.world ++ more.0 =
    ap (λ ms. frames_in (told_time words ms start).world) (sym (take-append-drop (i + 1) ns)) ∙ ap (λ (x : Done). frames_in x.world) (told_add words (take (i + 1) ns) (drop (i + 1) ns) start) ∙ more.1 in
    let full : (number : ℕ) → IsHeavy n now number → IsTellingFull words ns start number = λ number g.
    (i, slice_get-get_or ns i d le ∙ ap (λ m. Some m) (sym g.0), g.1) in
    halts_since (frames_in (told_time words ns start).world) (IsTellingFull words ns start) before.air mid.air new e (ap (λ (a : AirView). a.faults) went.sent)
    (halts_same (frames_in first.world ++ more.0) (frames_in (told_time words ns start).world) (IsTellingFull words ns start) mid.air new e (sym whole)
    (halts_more (frames_in first.world) more.0 (IsHeavy n now) (IsTellingFull words ns start) mid.air new e full
    (halts_same (frames_in (handled words n Clocked now).world) (frames_in first.world) (IsHeavy n now) mid.air new e after
    (subst (λ (v : World). Halts (frames_in (handled words n Clocked v).world) (IsHeavy n v) mid.air new e) went.world h))))

-- ---- a move of the clock

-- from a scene of another world with the same air and lines
pub goes_from : (d : Done) (Full : ℕ → Type 0) (before mid after : Scene) (r : Result (Unit {0}) StepFault) → mid.air ≡ before.air → mid.lines ≡ before.lines → Goes d Full mid after r → Goes d Full before after r
goes_from d Full before mid after (Ok done) air lines does = record {
  world = does.world;
  told = does.told ∙ ap (λ out. out ++ happened_text d.world.names d.happened) lines;
  sent = does.sent ∙ ap (λ (a : AirView). let x : AirView = record a { sent = frames_in d.world } in x) air;
  room = does.room;
}
goes_from d Full before mid after (Err e) air lines h = subst (λ (a : AirView). Halts (frames_in d.world) Full a after.air e) air h

-- the nodes were told of the time, which is that of the clock
pub clock_goes : (words : SignerWords) (ms : ℕ) (ns : List ℕ) (before mid after : Scene) (r : Result (Unit {0}) StepFault) → mid ≡ record before { standing = record before.standing { clock = before.standing.clock + ms } } → ns ≡ numbers_of (world_of before)
    → Goes (told_time words ns (world_of mid)) (IsTellingFull words ns (world_of mid)) mid after r
    → Goes (clocked words ms (world_of before)) (IsNodeFull words (Clock ms) (world_of before)) before after r
unfolding clocked
clock_goes words ms ns before mid after r on are goes =
    let w = world_of before in
    let v = gone_on ms w in
    let there = subst (λ (s : Scene). Goes (told_time words ns (world_of s)) (IsTellingFull words ns (world_of s)) s after r) on goes in
    let same = subst (λ (ks : List ℕ). Goes (told_time words ks v) (IsTellingFull words ks v) (record before { standing = record before.standing { clock = before.standing.clock + ms } }) after r) are there in
    goes_from (told_time words (numbers_of w) v) (IsTellingFull words (numbers_of w) v) before (record before { standing = record before.standing { clock = before.standing.clock + ms } }) after r refl refl same

pub sound_on : (before mid : Scene) (ms : ℕ) → mid ≡ record before { standing = record before.standing { clock = before.standing.clock + ms } } → IsSound before → IsSound mid
unfolding frames_in
sound_on before mid ms on sound = subst IsSound (sym on) (record { held = sound.held; room = sound.room })

-- the numbers of the nodes of a world
pub numbers_are : (s : Standing) (air : AirView) → map (λ a. a.0) (entries s.actors) ≡ numbers_of (world_in s air)
unfolding numbers_of
numbers_are s air = refl
