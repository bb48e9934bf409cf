-- The clock of a run: nodes tell decisions at it, and no event but the one for it moves it.
use Rattle.std.proofs.Common.{◌≡◌, ℕ, zero, suc, ◌+◌, ◌-◌, ◌≤◌, List, [], ◌∷◌, ◌++◌, map, Bool, true, false, cond, Option, Some, None, refl, sym, ap, ◌∙◌, subst, arith}
use Rattle.std.specs.Prelude.{position, slice_get}
use Rattle.std.specs.Option.{option_map_or}
use Rattle.std.specs.FinMap.{get}
use Rattle.std.proofs.lemmas.List.Elements.{filter_map-append}
use Rattle.reload_ids.specs.declared.NodeId.{NodeId}
use Rattle.data_models.specs.declared.config.Config.{Config}
use Rattle.node_messages.specs.Signed.{SignerWords}
use Rattle.storage_model.specs.Decisions.{Decision}
use Rattle.node_model.specs.declared.command.Command.{Command}
use Rattle.node_model.specs.Nodes.{Step, Cause, Framed, Clocked, Commanded}
use Rattle.node_model.specs.Peers.{Peer, Reaction, peer_step, effect_at}
use Rattle.node_model.specs.Peers as peers
use Rattle.node_model.specs.Clients.{is_busy, client_step}
use Rattle.run_model.specs.declared.flight.Flight.{Flight}
use Rattle.run_model.specs.declared.flight.Fate.TheVariants.{Delivered, Lost}
use Rattle.run_model.specs.declared.happening.Happening.TheVariants.{Tells, NoSuchFrame, UnknownNode, Busy}
use Rattle.run_model.specs.Worlds.{World, Actor, APeer, AClient, Done, quiet, refused, then_on, acts, after_step, handled, node_of, numbers_of, told_time}
use Rattle.run_model.specs.declared.moves.Move.{Move}
use Rattle.run_model.specs.declared.moves.Move.TheVariants.{Clock, Deliver, Lose, Drain, Ask}
use Rattle.run_model.specs.Moves.{aimed, with_fate, is_waiting, is_hearing, flown, flown_at, is_frame, delivered, lost_at, lost, drained, gone_on, clocked, is_asked, told_by, told, moved}
use Rattle.run_model.specs.Runs.{Event, decision_in, happenings}
use Rattle.overlay_laws.proofs.Lists.{all_both}
use Rattle.overlay_laws.proofs.Clocks.{AreAt, IsTimed, timed_none, timed-append}
use Rattle.overlay_laws.proofs.Deeds.{Deed, Silent, Decides, acts_peer}
use Rattle.overlay_laws.proofs.Tellings.{tells_client}
use Rattle.overlay_laws.proofs.OneMap.{decided, decided_none, decided_one, decided_answers}

-- ---- a node

at_deed : (config : Config) (n now : ℕ) (p : Peer) (x : Reaction) → Deed now p x → AreAt now (decided config (map (Tells n) x.notices))
at_deed config n now p x (Silent still records nothing) = subst (AreAt now) (sym (decided_none config n x.notices nothing)) tt
at_deed config n now p x (Decides r origin id q still own records one) =
    subst (AreAt now) (sym (decided_one config n now r origin id q (effect_at p now r origin id q) x.notices one)) (refl, tt)

-- what a node decides at a clock, it decides at that clock
at_step : (words : SignerWords) (cause : Cause) (config : Config) (n now : ℕ) (a : Actor) → AreAt now (decided config (map (Tells n) (acts words now cause a).outputs.notices))
at_step words cause config n now (APeer p) =
    let s : Step Peer = peer_step words now cause p in
    at_deed config n now p (record { peer = s.node; posts = []; notices = s.outputs.notices }) (acts_peer words now cause p).deed
at_step words cause config n now (AClient c) =
    subst (AreAt now) (sym (decided_answers config n (client_step words now cause c).outputs.notices (tells_client words now cause c))) tt

-- ---- parts of events

-- a part of an event leaves the clock, and decides at it
record Stays (now : ℕ) (d : Done) : Type 0 where
  same : d.world.clock ≡ now
  times : (config : Config) → AreAt now (decided config d.happened)

stays_quiet : (w : World) → Stays w.clock (quiet w)
stays_quiet w = record { same = refl; times = λ config. tt }

stays_no_frame : (w : World) (line : ℕ) → Stays w.clock (refused w (NoSuchFrame line))
stays_no_frame w line = record { same = refl; times = λ config. tt }

stays_no_node : (w : World) (line : ℕ) → Stays w.clock (refused w (UnknownNode line))
stays_no_node w line = record { same = refl; times = λ config. tt }

stays_busy : (w : World) (line : ℕ) → Stays w.clock (refused w (Busy line))
stays_busy w line = record { same = refl; times = λ config. tt }

stays_if : (now : ℕ) (b : Bool) (d e : Done) → Stays now d → Stays now e → Stays now (cond b d e)
stays_if now true d e first other = first
stays_if now false d e first other = other

-- one part after another
stays_both : (now : ℕ) (first : Done) (next : World → Done) → Stays now first → Stays first.world.clock (next first.world) → Stays now (then_on first next)
stays_both now first next one two = record {
  same = two.same ∙ one.same;
  times = λ config.
      let ds : List Decision = decided config first.happened in
      let es : List Decision = decided config (next first.world).happened in
      subst (AreAt now) (sym (filter_map-append (decision_in config) first.happened (next first.world).happened))
      (all_both (λ (d : Decision). d.time ≡ now) ds es (one.times config) (subst (λ (c : ℕ). AreAt c es) one.same (two.times config)));
}

stays_actor : (words : SignerWords) (cause : Cause) (n : ℕ) (w : World) (o : Option Actor) → Stays w.clock (option_map_or (λ a. after_step n w (acts words w.clock cause a)) o (quiet w))
unfolding after_step
stays_actor words cause n w None = stays_quiet w
stays_actor words cause n w (Some a) = record { same = refl; times = λ config. at_step words cause config n w.clock a }

stays_handled : (words : SignerWords) (n : ℕ) (cause : Cause) (w : World) → Stays w.clock (handled words n cause w)
unfolding handled
stays_handled words n cause w = stays_actor words cause n w (get w.actors n)

stays_heard : (words : SignerWords) (at : ℕ) (f : Flight) (w : World) (o : Option NodeId)
    → Stays w.clock (option_map_or (λ from. handled words f.hearer (Framed from f.bytes) (with_fate Delivered at f w)) o (quiet w))
stays_heard words at f w None = stays_quiet w
stays_heard words at f w (Some from) = stays_handled words f.hearer (Framed from f.bytes) (with_fate Delivered at f w)

stays_lost : (at : ℕ) (w : World) (o : Option Flight) → Stays w.clock (quiet (option_map_or (λ f. cond (is_waiting f) (with_fate Lost at f w) w) o w))
stays_lost at w None = stays_quiet w
stays_lost at w (Some f) =
    elim (is_waiting f) as (λ b. Stays w.clock (quiet (cond b (with_fate Lost at f w) w))) [ true ↦ stays_quiet (with_fate Lost at f w) | false ↦ stays_quiet w ]

stays_flown : (words : SignerWords) (at : ℕ) (f : Flight) (w : World) → Stays w.clock (flown words at f w)
unfolding flown lost_at
stays_flown words at f w =
    stays_if w.clock (is_hearing (get w.actors f.hearer)) _ _ (stays_heard words at f w (node_of w.names f.sender)) (stays_lost at w (slice_get w.flights at))

stays_place : (words : SignerWords) (at : ℕ) (w : World) (o : Option Flight) → Stays w.clock (option_map_or (λ f. flown words at f w) o (quiet w))
stays_place words at w None = stays_quiet w
stays_place words at w (Some f) = stays_flown words at f w

stays_flown_at : (words : SignerWords) (at : ℕ) (w : World) → Stays w.clock (flown_at words at w)
unfolding flown_at
stays_flown_at words at w = stays_place words at w (slice_get w.flights at)

stays_next : (words : SignerWords) (n : ℕ) (w : World) (o : Option ℕ) → ((v : World) → Stays v.clock (drained words n v))
    → Stays w.clock (option_map_or (λ at. then_on (flown_at words at w) (drained words n)) o (quiet w))
stays_next words n w None later = stays_quiet w
stays_next words n w (Some at) later =
    let first : Done = flown_at words at w in
    stays_both w.clock first (drained words n) (stays_flown_at words at w) (later first.world)

stays_drained : (words : SignerWords) (n : ℕ) (w : World) → Stays w.clock (drained words n w)
unfolding drained
stays_drained words zero w = stays_quiet w
stays_drained words (suc n) w = stays_next words n w (position is_waiting w.flights) (λ v. stays_drained words n v)

stays_told_time : (words : SignerWords) (ns : List ℕ) (w : World) → Stays w.clock (told_time words ns w)
unfolding told_time
stays_told_time words [] w = stays_quiet w
stays_told_time words (n ∷ ns) w =
    let first : Done = handled words n Clocked w in
    stays_both w.clock first (told_time words ns) (stays_handled words n Clocked w) (stays_told_time words ns first.world)

-- nothing is decided by a node that is told of the time
none_decided : (words : SignerWords) (config : Config) (n : ℕ) (w : World) (o : Option Actor) → decided config (option_map_or (λ a. after_step n w (acts words w.clock Clocked a)) o (quiet w)).happened ≡ []
unfolding after_step peers.clocked
none_decided words config n w None = refl
none_decided words config n w (Some (APeer p)) = refl
none_decided words config n w (Some (AClient c)) =
    decided_answers config n (client_step words w.clock Clocked c).outputs.notices (tells_client words w.clock Clocked c)

none_told : (words : SignerWords) (config : Config) (ns : List ℕ) (w : World) → decided config (told_time words ns w).happened ≡ []
unfolding told_time handled
none_told words config [] w = refl
none_told words config (n ∷ ns) w =
    let first : Done = handled words n Clocked w in
    filter_map-append (decision_in config) first.happened (told_time words ns first.world).happened
    ∙ ap (λ (ds : List Decision). ds ++ decided config (told_time words ns first.world).happened) (none_decided words config n w (get w.actors n))
    ∙ none_told words config ns first.world

stays_told_by : (words : SignerWords) (line client : ℕ) (command : Command) (w : World) (o : Option Actor) → Stays w.clock (told_by words line client command w o)
stays_told_by words line client command w (Some (AClient c)) =
    stays_if w.clock (is_busy c) _ _ (stays_busy w line) (stays_handled words client (Commanded command) w)
stays_told_by words line client command w (Some (APeer p)) = stays_no_node w line
stays_told_by words line client command w None = stays_no_node w line

stays_asking : (words : SignerWords) (line client : ℕ) (command : NodeId → Command) (w : World) (o : Option NodeId)
    → Stays w.clock (option_map_or (λ id. told_by words line client (command id) w (get w.actors client)) o (refused w (UnknownNode line)))
stays_asking words line client command w None = stays_no_node w line
stays_asking words line client command w (Some id) = stays_told_by words line client (command id) w (get w.actors client)

-- ---- events and runs

-- an event decides at the clock before it, which doesn't fall
record Passes (now : ℕ) (d : Done) : Type 0 where
  later : now ≤ d.world.clock
  times : (config : Config) → AreAt now (decided config d.happened)

passes : (now : ℕ) (d : Done) → Stays now d → Passes now d
passes now d s = record { later = omega (arith, s.same); times = s.times }

passes_moved : (words : SignerWords) (line : ℕ) (move : Move) (w : World) → Passes w.clock (moved words line move w)
unfolding clocked delivered lost lost_at told
passes_moved words line (Clock ms) w =
    let ns : List ℕ = numbers_of w in
    let on : World = gone_on ms w in record {
      later = omega (arith, (stays_told_time words ns on).same);
      times = λ config. subst (AreAt w.clock) (sym (none_told words config ns on)) tt;
    }
passes_moved words line (Deliver k) w = passes w.clock _ (stays_if w.clock (is_frame k w) _ _ (stays_flown_at words (k - 1) w) (stays_no_frame w line))
passes_moved words line (Lose k) w = passes w.clock _ (stays_if w.clock (is_frame k w) _ _ (stays_lost (k - 1) w (slice_get w.flights (k - 1))) (stays_no_frame w line))
passes_moved words line (Drain n) w = passes w.clock _ (stays_drained words n w)
passes_moved words line (Ask client peer command) w =
    passes w.clock _ (stays_if w.clock (is_asked (get w.actors peer)) _ _ (stays_asking words line client (aimed command) w (node_of w.names peer)) (stays_no_node w line))

-- a move of the clock by no more than this, or any other event
abbrev pub IsSlow : ℕ → Move → Type 0
IsSlow most (Clock ms) = ms ≤ most
IsSlow most (Deliver k) = Unit {0}
IsSlow most (Lose k) = Unit {0}
IsSlow most (Drain n) = Unit {0}
IsSlow most (Ask client peer command) = Unit {0}

stays_slow : (now most : ℕ) (d : Done) → Stays now d → d.world.clock ≤ now + most
stays_slow now most d s = omega (arith, s.same)

-- an event moves the clock on no more than it says
pub moved_slowly : (words : SignerWords) (line most : ℕ) (move : Move) (w : World) → IsSlow most move → (moved words line move w).world.clock ≤ w.clock + most
unfolding clocked delivered lost lost_at told
moved_slowly words line most (Clock ms) w slow =
    omega (arith, slow, (stays_told_time words (numbers_of w) (gone_on ms w)).same)
moved_slowly words line most (Deliver k) w slow = stays_slow w.clock most _ (stays_if w.clock (is_frame k w) _ _ (stays_flown_at words (k - 1) w) (stays_no_frame w line))
moved_slowly words line most (Lose k) w slow = stays_slow w.clock most _ (stays_if w.clock (is_frame k w) _ _ (stays_lost (k - 1) w (slice_get w.flights (k - 1))) (stays_no_frame w line))
moved_slowly words line most (Drain n) w slow = stays_slow w.clock most _ (stays_drained words n w)
moved_slowly words line most (Ask client peer command) w slow =
    stays_slow w.clock most _ (stays_if w.clock (is_asked (get w.actors peer)) _ _ (stays_asking words line client (aimed command) w (node_of w.names peer)) (stays_no_node w line))

-- the decisions of any events are in time
pub run_timed : (words : SignerWords) (config : Config) (w : World) (es : List Event) → IsTimed w.clock (decided config (happenings words w es))
unfolding happenings
run_timed words config w [] = timed_none w.clock
run_timed words config w (e ∷ es) =
    let first : Done = moved words e.0 e.1 w in
    let one = passes_moved words e.0 e.1 w in
    let rest = run_timed words config first.world es in
    subst (IsTimed w.clock) (sym (filter_map-append (decision_in config) first.happened (happenings words first.world es)))
    (timed-append w.clock first.world.clock (decided config first.happened) (decided config (happenings words first.world es)) one.later (one.times config) rest)
