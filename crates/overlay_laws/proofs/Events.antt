-- Each event goes by the one map.
use Rattle.std.proofs.Common.{◌≡◌, ℕ, zero, suc, ◌-◌, ◌++◌, List, [], ◌∷◌, Bool, true, false, cond, Option, Some, None, refl, sym, ap, ◌∙◌, subst, append_assoc}
use Rattle.std.specs.Prelude.{position, slice_get}
use Rattle.std.specs.Option.{option_map_or}
use Rattle.std.specs.FinMap.{get}
use Rattle.std.proofs.lemmas.List.Elements.{filter_map-append}
use Rattle.reload_ids.specs.declared.NodeId.{NodeId}
use Rattle.data_models.specs.declared.config.Config.{Config}
use Rattle.node_messages.specs.Signed.{SignerWords}
use Rattle.storage_model.specs.Records.{Map}
use Rattle.storage_model.specs.Decisions.{Decision, IsLegalFrom}
use Rattle.storage_model.specs.Laws.{map_from}
use Rattle.storage_model.proofs.OnceLaw.{map_from-append}
use Rattle.node_model.specs.declared.command.Command.{Command}
use Rattle.node_model.specs.Nodes.{Cause, Framed, Clocked, Commanded}
use Rattle.node_model.specs.Clients.{is_busy}
use Rattle.run_model.specs.declared.flight.Flight.{Flight}
use Rattle.run_model.specs.declared.flight.Fate.TheVariants.{Delivered, Lost}
use Rattle.run_model.specs.declared.happening.Happening.TheVariants.{NoSuchFrame, UnknownNode, Busy}
use Rattle.run_model.specs.Worlds.{World, Actor, APeer, AClient, Done, quiet, refused, then_on, acts, after_step, handled, node_of, numbers_of, told_time}
use Rattle.run_model.specs.declared.moves.Move.{Move}
use Rattle.run_model.specs.declared.moves.Move.TheVariants.{Clock, Deliver, Lose, Drain, Ask}
use Rattle.run_model.specs.Moves.{aimed, with_fate, is_waiting, is_hearing, flown, flown_at, is_frame, delivered, lost_at, lost, drained, gone_on, clocked, is_asked, told_by, told, moved}
use Rattle.run_model.specs.Runs.{Event, decision_in, world_after, happenings}
use Rattle.overlay_laws.proofs.OneMap.{Holds, Goes, decided, holds_still, goes_on, goes_peer, goes_client}

-- ---- one part after another

goes_both : (m : Map) (w : World) (first : Done) (next : World → Done) → Goes m w first → ((n : Map) → Holds n first.world → Goes n first.world (next first.world)) → Goes m w (then_on first next)
goes_both m w first next one two =
    let ds : List Decision = decided w.config first.happened in
    let last : Done = next first.world in
    let es : List Decision = decided w.config last.happened in
    let then : Goes (map_from m ds) first.world last = two (map_from m ds) one.holds in
    let split : decided w.config (first.happened ++ last.happened) ≡ ds ++ es = filter_map-append (decision_in w.config) first.happened last.happened in
    let same : decided first.world.config last.happened ≡ es = ap (λ (c : Config). decided c last.happened) one.config in
    record {
      holds = subst (λ (fs : List Decision). Holds (map_from m fs) last.world) (sym split)
          (subst (λ (n : Map). Holds n last.world) (ap (map_from (map_from m ds)) same ∙ sym (map_from-append m ds es)) then.holds);
      config = then.config ∙ one.config;
      legal = λ later l.
          subst (λ (fs : List Decision). IsLegalFrom m (fs ++ later)) (sym split)
          (subst (IsLegalFrom m) (sym (append_assoc ds es later))
          (one.legal (es ++ later)
          (subst (λ (fs : List Decision). IsLegalFrom (map_from m ds) (fs ++ later)) same
          (then.legal later (subst (λ (n : Map). IsLegalFrom n later) (ap (map_from m) split ∙ map_from-append m ds es ∙ ap (map_from (map_from m ds)) (sym same)) l)))));
    }

goes_quiet : (m : Map) (w : World) → Holds m w → Goes m w (quiet w)
goes_quiet m w h = goes_on m w w refl refl h

goes_if : (m : Map) (w : World) (b : Bool) (d e : Done) → Goes m w d → Goes m w e → Goes m w (cond b d e)
goes_if m w true d e first other = first
goes_if m w false d e first other = other

goes_no_frame : (m : Map) (w : World) (line : ℕ) → Holds m w → Goes m w (refused w (NoSuchFrame line))
unfolding map_from
goes_no_frame m w line h = record { holds = h; config = refl; legal = λ later l. l }

goes_no_node : (m : Map) (w : World) (line : ℕ) → Holds m w → Goes m w (refused w (UnknownNode line))
unfolding map_from
goes_no_node m w line h = record { holds = h; config = refl; legal = λ later l. l }

goes_busy : (m : Map) (w : World) (line : ℕ) → Holds m w → Goes m w (refused w (Busy line))
unfolding map_from
goes_busy m w line h = record { holds = h; config = refl; legal = λ later l. l }

-- ---- nodes

goes_actor : (words : SignerWords) (cause : Cause) (m : Map) (w : World) (n : ℕ) (o : Option Actor) → get w.actors n ≡ o → Holds m w
    → Goes m w (option_map_or (λ a. after_step n w (acts words w.clock cause a)) o (quiet w))
goes_actor words cause m w n None at h = goes_quiet m w h
goes_actor words cause m w n (Some (APeer p)) at h = goes_peer words cause m w n p h at
goes_actor words cause m w n (Some (AClient c)) at h = goes_client words cause m w n c h

pub goes_handled : (words : SignerWords) (n : ℕ) (cause : Cause) (m : Map) (w : World) → Holds m w → Goes m w (handled words n cause w)
unfolding handled
goes_handled words n cause m w h = goes_actor words cause m w n (get w.actors n) refl h

-- ---- frames

-- what goes on from a world of the same nodes
goes_from : (m : Map) (w v : World) (d : Done) → v.config ≡ w.config → Goes m v d → Goes m w d
goes_from m w v d config g = record {
  holds = subst (λ (c : Config). Holds (map_from m (decided c d.happened)) d.world) config g.holds;
  config = g.config ∙ config;
  legal = λ later l. subst (λ (c : Config). IsLegalFrom m (decided c d.happened ++ later)) config (g.legal later (subst (λ (c : Config). IsLegalFrom (map_from m (decided c d.happened)) later) (sym config) l));
}

goes_heard : (words : SignerWords) (at : ℕ) (f : Flight) (m : Map) (w : World) (o : Option NodeId) → Holds m w
    → Goes m w (option_map_or (λ from. handled words f.hearer (Framed from f.bytes) (with_fate Delivered at f w)) o (quiet w))
goes_heard words at f m w None h = goes_quiet m w h
goes_heard words at f m w (Some from) h =
    let v : World = with_fate Delivered at f w in
    goes_from m w v _ refl (goes_handled words f.hearer (Framed from f.bytes) m v (holds_still m w v refl refl h))

still_lost : (at : ℕ) (w : World) (o : Option Flight) → ((option_map_or (λ f. cond (is_waiting f) (with_fate Lost at f w) w) o w).actors ≡ w.actors) × ((option_map_or (λ f. cond (is_waiting f) (with_fate Lost at f w) w) o w).config ≡ w.config)
still_lost at w None = (refl, refl)
still_lost at w (Some f) =
    elim (is_waiting f) as (λ b. ((cond b (with_fate Lost at f w) w).actors ≡ w.actors) × ((cond b (with_fate Lost at f w) w).config ≡ w.config)) [ true ↦ (refl, refl) | false ↦ (refl, refl) ]

goes_flown : (words : SignerWords) (at : ℕ) (f : Flight) (m : Map) (w : World) → Holds m w → Goes m w (flown words at f w)
unfolding flown lost_at
goes_flown words at f m w h =
    let still = still_lost at w (slice_get w.flights at) in
    goes_if m w (is_hearing (get w.actors f.hearer)) _ _ (goes_heard words at f m w (node_of w.names f.sender) h) (goes_on m w (lost_at at w) still.0 still.1 h)

goes_place : (words : SignerWords) (at : ℕ) (m : Map) (w : World) (o : Option Flight) → Holds m w → Goes m w (option_map_or (λ f. flown words at f w) o (quiet w))
goes_place words at m w None h = goes_quiet m w h
goes_place words at m w (Some f) h = goes_flown words at f m w h

pub goes_flown_at : (words : SignerWords) (at : ℕ) (m : Map) (w : World) → Holds m w → Goes m w (flown_at words at w)
unfolding flown_at
goes_flown_at words at m w h = goes_place words at m w (slice_get w.flights at) h

goes_delivered : (words : SignerWords) (line k : ℕ) (m : Map) (w : World) → Holds m w → Goes m w (delivered words line k w)
unfolding delivered
goes_delivered words line k m w h = goes_if m w (is_frame k w) _ _ (goes_flown_at words (k - 1) m w h) (goes_no_frame m w line h)

goes_lost : (line k : ℕ) (m : Map) (w : World) → Holds m w → Goes m w (lost line k w)
unfolding lost lost_at
goes_lost line k m w h =
    let still = still_lost (k - 1) w (slice_get w.flights (k - 1)) in
    goes_if m w (is_frame k w) _ _ (goes_on m w (lost_at (k - 1) w) still.0 still.1 h) (goes_no_frame m w line h)

goes_next : (words : SignerWords) (n : ℕ) (m : Map) (w : World) (o : Option ℕ) → Holds m w → ((k : Map) (v : World) → Holds k v → Goes k v (drained words n v))
    → Goes m w (option_map_or (λ at. then_on (flown_at words at w) (drained words n)) o (quiet w))
goes_next words n m w None h later = goes_quiet m w h
goes_next words n m w (Some at) h later = goes_both m w (flown_at words at w) (drained words n) (goes_flown_at words at m w h) (λ k g. later k (flown_at words at w).world g)

goes_drained : (words : SignerWords) (n : ℕ) (m : Map) (w : World) → Holds m w → Goes m w (drained words n w)
unfolding drained
goes_drained words zero m w h = goes_quiet m w h
goes_drained words (suc n) m w h = goes_next words n m w (position is_waiting w.flights) h (λ k v g. goes_drained words n k v g)

-- ---- the clock

pub goes_told_time : (words : SignerWords) (ns : List ℕ) (m : Map) (w : World) → Holds m w → Goes m w (told_time words ns w)
unfolding told_time
goes_told_time words [] m w h = goes_quiet m w h
goes_told_time words (n ∷ ns) m w h =
    let first : Done = handled words n Clocked w in
    goes_both m w first (told_time words ns) (goes_handled words n Clocked m w h) (λ k g. goes_told_time words ns k first.world g)

goes_clocked : (words : SignerWords) (ms : ℕ) (m : Map) (w : World) → Holds m w → Goes m w (clocked words ms w)
unfolding clocked
goes_clocked words ms m w h =
    let on : World = gone_on ms w in
    goes_from m w on _ refl (goes_told_time words (numbers_of w) m on (holds_still m w on refl refl h))

-- ---- requests

goes_told_by : (words : SignerWords) (line client : ℕ) (command : Command) (m : Map) (w : World) (o : Option Actor) → Holds m w → Goes m w (told_by words line client command w o)
goes_told_by words line client command m w (Some (AClient c)) h =
    goes_if m w (is_busy c) _ _ (goes_busy m w line h) (goes_handled words client (Commanded command) m w h)
goes_told_by words line client command m w (Some (APeer p)) h = goes_no_node m w line h
goes_told_by words line client command m w None h = goes_no_node m w line h

goes_asking : (words : SignerWords) (line client : ℕ) (command : NodeId → Command) (m : Map) (w : World) (o : Option NodeId) → Holds m w
    → Goes m w (option_map_or (λ id. told_by words line client (command id) w (get w.actors client)) o (refused w (UnknownNode line)))
goes_asking words line client command m w None h = goes_no_node m w line h
goes_asking words line client command m w (Some id) h = goes_told_by words line client (command id) m w (get w.actors client) h

goes_told : (words : SignerWords) (line client peer : ℕ) (command : NodeId → Command) (m : Map) (w : World) → Holds m w → Goes m w (told words line client peer command w)
unfolding told
goes_told words line client peer command m w h =
    goes_if m w (is_asked (get w.actors peer)) _ _ (goes_asking words line client command m w (node_of w.names peer) h) (goes_no_node m w line h)

-- ---- events and runs

pub goes_moved : (words : SignerWords) (line : ℕ) (move : Move) (m : Map) (w : World) → Holds m w → Goes m w (moved words line move w)
goes_moved words line (Clock ms) m w h = goes_clocked words ms m w h
goes_moved words line (Deliver k) m w h = goes_delivered words line k m w h
goes_moved words line (Lose k) m w h = goes_lost line k m w h
goes_moved words line (Drain n) m w h = goes_drained words n m w h
goes_moved words line (Ask client peer command) m w h = goes_told words line client peer (aimed command) m w h

-- the decisions of any events are those of the one map
pub run_legal : (words : SignerWords) (m : Map) (w : World) (es : List Event) → Holds m w → IsLegalFrom m (decided w.config (happenings words w es))
unfolding happenings IsLegalFrom
run_legal words m w [] h = tt
run_legal words m w (e ∷ es) h =
    let first : Done = moved words e.0 e.1 w in
    let g = goes_moved words e.0 e.1 m w h in
    let later : List Decision = decided first.world.config (happenings words first.world es) in
    subst (IsLegalFrom m) (sym (filter_map-append (decision_in w.config) first.happened (happenings words first.world es)))
    (g.legal (decided w.config (happenings words first.world es))
    (subst (λ (c : Config). IsLegalFrom (map_from m (decided w.config first.happened)) (decided c (happenings words first.world es))) g.config
    (run_legal words (map_from m (decided w.config first.happened)) first.world es g.holds)))

-- after any events each peer's record of what it owns is that of the one map
pub run_holds : (words : SignerWords) (m : Map) (w : World) (es : List Event) → Holds m w → Holds (map_from m (decided w.config (happenings words w es))) (world_after words w es)
unfolding happenings world_after map_from
run_holds words m w [] h = h
run_holds words m w (e ∷ es) h =
    let first : Done = moved words e.0 e.1 w in
    let g = goes_moved words e.0 e.1 m w h in
    let ds : List Decision = decided w.config first.happened in
    let last : World = world_after words first.world es in
    subst (λ (fs : List Decision). Holds (map_from m fs) last) (sym (filter_map-append (decision_in w.config) first.happened (happenings words first.world es)))
    (subst (λ (n : Map). Holds n last) (sym (map_from-append m ds (decided w.config (happenings words first.world es))))
    (subst (λ (c : Config). Holds (map_from (map_from m ds) (decided c (happenings words first.world es))) last) g.config
    (run_holds words (map_from m ds) first.world es g.holds)))
