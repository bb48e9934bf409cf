-- A drain: the first deliveries, and those that are left.
use Rattle.std.proofs.Common.{◌≡◌, ℕ, zero, suc, ◌+◌, ◌-◌, ◌<◌, ◌≤◌, List, ◌++◌, refl, sym, ap, subst, ◌∙◌, arith, append_assoc}
use Rattle.std.specs.Prelude.{Option, Some, None, position}
use Rattle.std.specs.Option.{option_map_or, option_and_then}
use Rattle.std.proofs.lemmas.List.{append-nil}
use Rattle.reload_base.specs.Outside.{AirView}
use Rattle.request_words.specs.declared.node.DeclaredNode.{DeclaredNode}
use Rattle.node_messages.specs.Signed.{SignerWords}
use Rattle.run_model.specs.declared.happening.Happening.{Happening}
use Rattle.run_model.specs.declared.moves.Move.TheVariants.{Drain}
use Rattle.run_model.specs.Worlds.{World, Done, quiet, then_on}
use Rattle.run_model.specs.Moves.{is_waiting, flown_at, drained}
use Rattle.run_model.specs.Stops.{frames_in, hearer_at, IsNodeFull}
use Rattle.run_text.specs.Lines.{happened_text}
use Rattle.overlay_world.specs.declared.fault.StepFault.{StepFault}
use Rattle.overlay_world.specs.Sendings.{Halts, IsFullAt}
use Rattle.overlay_world.proofs.Airs.{halts_more, halts_same, halts_since}
use Rattle.overlay_world.proofs.Frames.{adds_drained}
use Rattle.overlay_world.specs.Parts.{Scene, world_of, IsSound, Does}
use Rattle.overlay_world.proofs.Flown.{quiet_does}
use Rattle.overlay_world.proofs.Lines.{more_lines, names_flown_at}

-- ---- parts of a drain

pub then_nothing : (d : Done) → then_on d quiet ≡ d
then_nothing d = ap (λ (l : List Happening). let e : Done = record { world = d.world; happened = l } in e) (append-nil d.happened)

pub then_then : (first : Done) (next last : World → Done) → then_on first (λ w. then_on (next w) last) ≡ then_on (then_on first next) last
then_then first next last =
    let d = next first.world in
    let e = last d.world in
    ap (λ (l : List Happening). let x : Done = record { world = e.world; happened = l } in x) (sym (append_assoc first.happened d.happened e.happened))

none_waits : (words : SignerWords) (j : ℕ) (w : World) → position is_waiting w.flights ≡ None → drained words j w ≡ quiet w
unfolding drained
none_waits words zero w e = refl
none_waits words (suc j) w e = ap (λ o. option_map_or (λ at. then_on (flown_at words at w) (drained words j)) o (quiet w)) e

one_waits : (words : SignerWords) (at : ℕ) (w : World) → position is_waiting w.flights ≡ Some at → drained words 1 w ≡ flown_at words at w
unfolding drained
one_waits words at w e =
    ap (λ o. option_map_or (λ at. then_on (flown_at words at w) (drained words 0)) o (quiet w)) e ∙ then_nothing (flown_at words at w)

add_next : (words : SignerWords) (k j : ℕ) (w : World) (o : Option ℕ) → position is_waiting w.flights ≡ o → ((v : World) → drained words (k + j) v ≡ then_on (drained words k v) (drained words j))
    → option_map_or (λ at. then_on (flown_at words at w) (drained words (k + j))) o (quiet w) ≡ then_on (option_map_or (λ at. then_on (flown_at words at w) (drained words k)) o (quiet w)) (drained words j)
add_next words k j w None e later = sym (none_waits words j w e)
add_next words k j w (Some at) e later =
    let first = flown_at words at w in
    ap (λ (d : Done). let x : Done = record { world = d.world; happened = first.happened ++ d.happened } in x) (later first.world)
    ∙ then_then first (drained words k) (drained words j)

-- a drain is its first deliveries, and then the others
pub drained_add : (words : SignerWords) (k j : ℕ) (w : World) → drained words (k + j) w ≡ then_on (drained words k w) (drained words j)
unfolding drained
drained_add words zero j w = let e : 0 + j ≡ j = omega arith in ap (λ n. drained words n w) e
drained_add words (suc k) j w =
    let e : suc k + j ≡ suc (k + j) = omega arith in
    ap (λ n. drained words n w) e ∙ add_next words k j w (position is_waiting w.flights) refl (λ v. drained_add words k j v)

-- ---- a delivery after some

pub drained_next : (words : SignerWords) (k at : ℕ) (w : World) → position is_waiting (drained words k w).world.flights ≡ Some at → drained words (k + 1) w ≡ then_on (drained words k w) (flown_at words at)
drained_next words k at w e =
    let d = drained words k w in
    drained_add words k 1 w ∙ ap (λ (x : Done). let y : Done = record { world = x.world; happened = d.happened ++ x.happened } in y) (one_waits words at d.world e)

pub drained_end : (words : SignerWords) (k n : ℕ) (w : World) → position is_waiting (drained words k w).world.flights ≡ None → k ≤ n → drained words n w ≡ drained words k w
drained_end words k n w e le =
    let d = drained words k w in
    let is : n ≡ k + (n - k) = omega (arith, le) in
    ap (λ m. drained words m w) is ∙ drained_add words k (n - k) w
    ∙ ap (λ (x : Done). let y : Done = record { world = x.world; happened = d.happened ++ x.happened } in y) (none_waits words (n - k) d.world e)
    ∙ then_nothing d

-- what stops a delivery stops the drain
pub drain_halts : (words : SignerWords) (k n at : ℕ) (w : World) (old new : AirView) (e : StepFault) → k < n → position is_waiting (drained words k w).world.flights ≡ Some at
    → Halts (frames_in (flown_at words at (drained words k w).world).world) (IsFullAt at (drained words k w).world) old new e
    → Halts (frames_in (drained words n w).world) (IsNodeFull words (Drain n) w) old new e
drain_halts words k n at w old new e lt there h =
    let now = (drained words k w).world in
    let first = drained words (k + 1) w in
    let is : n ≡ (k + 1) + (n - (k + 1)) = omega (arith, lt) in
    let more = adds_drained words (n - (k + 1)) first.world in
    let after : frames_in (flown_at words at now).world ≡ frames_in first.world = sym (ap (λ (d : Done). frames_in d.world) (drained_next words k at w there)) in
    let whole : frames_in (drained words n w).world ≡ frames_in first.world ++ more.0 =
    ap (λ m. frames_in (drained words m w).world) is ∙ ap (λ (d : Done). frames_in d.world) (drained_add words (k + 1) (n - (k + 1)) w) ∙ more.1 in
    let full : (number : ℕ) → IsFullAt at now number → IsNodeFull words (Drain n) w number = λ number g.
    (k, lt, ap (λ o. option_and_then (λ (x : ℕ). hearer_at x now) o) there ∙ g.0, g.1) in
    halts_same (frames_in first.world ++ more.0) (frames_in (drained words n w).world) (IsNodeFull words (Drain n) w) old new e (sym whole)
    (halts_more (frames_in first.world) more.0 (IsFullAt at now) (IsNodeFull words (Drain n) w) old new e full
    (halts_same (frames_in (flown_at words at now).world) (frames_in first.world) (IsFullAt at now) old new e after h))

-- ---- a drain on its way

-- an event can go on from where a part of one came to
pub does_sound : (d : Done) (before after : Scene) → Does d before after → IsSound after
does_sound d before after does = record {
  held = ap (λ (a : AirView). a.sent) does.sent ∙ ap frames_in (sym does.world);
  room = does.room;
}

-- none was delivered yet
pub drained_none : (words : SignerWords) (before : Scene) → IsSound before → Does (drained words 0 (world_of before)) before before
unfolding drained
drained_none words before sound = quiet_does (drained words 0 (world_of before)) before.standing before.standing before.air before.lines refl refl sound

waits_then : (words : SignerWords) (k : ℕ) (before mid : Scene) (o : Option ℕ) → Does (drained words k (world_of before)) before mid → o ≡ position is_waiting (world_of mid).flights → position is_waiting (drained words k (world_of before)).world.flights ≡ o
waits_then words k before mid o went place = ap (λ (v : World). position is_waiting v.flights) (sym went.world) ∙ sym place

-- a part of an event behind another one
pub then_does : (d : Done) (next : World → Done) (before mid after : Scene) → Does d before mid → Does (next d.world) mid after → (next d.world).world.names ≡ d.world.names → Does (then_on d next) before after
then_does d next before mid after first last named =
    let l = next d.world in
    record {
      world = last.world;
      told = last.told
          ∙ ap (λ x. x ++ happened_text l.world.names l.happened) (first.told ∙ ap (λ (n : List DeclaredNode). before.lines ++ happened_text n d.happened) (sym named))
          ∙ append_assoc before.lines (happened_text l.world.names d.happened) (happened_text l.world.names l.happened)
          ∙ ap (λ x. before.lines ++ x) (sym (more_lines l.world.names d.happened l.happened));
      sent = last.sent ∙ ap (λ (a : AirView). let x : AirView = record a { sent = frames_in l.world } in x) first.sent;
      room = last.room;
    }

-- one more was delivered
pub next_does : (words : SignerWords) (k at : ℕ) (before mid after : Scene) → Does (drained words k (world_of before)) before mid → Some at ≡ position is_waiting (world_of mid).flights
    → Does (flown_at words at (world_of mid)) mid after → Does (drained words (k + 1) (world_of before)) before after
next_does words k at before mid after went place fly =
    let d = drained words k (world_of before) in
    let last = subst (λ (v : World). Does (flown_at words at v) mid after) went.world fly in
    subst (λ (x : Done). Does x before after) (sym (drained_next words k at (world_of before) (waits_then words k before mid (Some at) went place)))
    (then_does d (flown_at words at) before mid after went last (names_flown_at words at d.world))

-- as many as there are to be
pub drained_all : (words : SignerWords) (k n : ℕ) (before mid : Scene) → Does (drained words k (world_of before)) before mid → k ≡ n → Does (drained words n (world_of before)) before mid
drained_all words k n before mid went e = subst (λ m. Does (drained words m (world_of before)) before mid) e went

-- none waits any more
pub drained_out : (words : SignerWords) (k n : ℕ) (before mid : Scene) → Does (drained words k (world_of before)) before mid → None ≡ position is_waiting (world_of mid).flights → k ≤ n → Does (drained words n (world_of before)) before mid
drained_out words k n before mid went place le =
    subst (λ (x : Done). Does x before mid) (sym (drained_end words k n (world_of before) (waits_then words k before mid None went place) le)) went

-- what stops the next delivery
pub next_halts : (words : SignerWords) (k n at : ℕ) (before mid : Scene) (new : AirView) (e : StepFault) → Does (drained words k (world_of before)) before mid → Some at ≡ position is_waiting (world_of mid).flights → k < n
    → Halts (frames_in (flown_at words at (world_of mid)).world) (IsFullAt at (world_of mid)) mid.air new e → Halts (frames_in (drained words n (world_of before)).world) (IsNodeFull words (Drain n) (world_of before)) before.air new e
next_halts words k n at before mid new e went place lt h =
    let start = world_of before in
    halts_since (frames_in (drained words n start).world) (IsNodeFull words (Drain n) start) before.air mid.air new e (ap (λ (a : AirView). a.faults) went.sent)
    (drain_halts words k n at start mid.air new e lt (waits_then words k before mid (Some at) went place)
    (subst (λ (v : World). Halts (frames_in (flown_at words at v).world) (IsFullAt at v) mid.air new e) went.world h))
