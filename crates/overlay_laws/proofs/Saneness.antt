-- Where all frames are bytes, what is decided makes sense.
use Rattle.std.proofs.Common.{◌≡◌, ℕ, zero, suc, ◌-◌, List, [], ◌∷◌, map, length, Bool, true, false, cond, Option, Some, None, refl, sym, ap, ◌∙◌, subst}
use Rattle.std.specs.Prelude.{position, slice_get, slice_set}
use Rattle.std.specs.Option.{option_map_or}
use Rattle.std.specs.List.{AllByRecursion, list_any}
use Rattle.std.specs.FinMap.{get}
use Rattle.std.proofs.lemmas.List.Elements.{filter_map-append}
use Rattle.reload_ids.specs.declared.NodeId.{NodeId}
use Rattle.reload_ids.specs.declared.ResourceId.{ResourceId}
use Rattle.wire_core.specs.Spelling.{AreBytes}
use Rattle.data_models.specs.declared.config.Config.{Config}
use Rattle.data_models.specs.declared.config.DataModel.{DataModel}
use Rattle.data_models.specs.Configs.{IsConfig}
use Rattle.forwarding_header.specs.declared.forwarding_option.TheConstants.{DESTINATION_CRITICAL}
use Rattle.node_messages.specs.declared.message.Message.{Message}
use Rattle.node_messages.specs.Signed.{SignerWords}
use Rattle.storage_model.specs.Records.{Map}
use Rattle.storage_model.specs.Laws.{IsSound, AreSound, map_from}
use Rattle.node_model.specs.declared.command.Command.{Command}
use Rattle.node_model.specs.declared.course.Course.{Course}
use Rattle.node_model.specs.declared.course.Course.TheVariants.{Dropped, Refused, Here, Owned, Forwarded}
use Rattle.node_model.specs.declared.course.AnswerCourse.{AnswerCourse}
use Rattle.node_model.specs.declared.course.AnswerCourse.TheVariants as answers
use Rattle.node_model.specs.declared.notice.Notice.{Notice}
use Rattle.node_model.specs.declared.notice.Notice.TheVariants as notices
use Rattle.node_model.specs.Nodes.{Step, Cause, Framed, Clocked, Commanded}
use Rattle.node_model.specs.Heard.{Envelope, payload_in, heard_in, is_answer, message_in}
use Rattle.node_model.specs.Ways.{has_flag, answer_course}
use Rattle.node_model.specs.Courses.{course}
use Rattle.node_model.specs.Askings.{is_decided}
use Rattle.node_model.specs.Peers.{Peer, Reaction, state_of, is_gone, decides, handled, by_course, by_answer_course, reaction, reaction_to, sends, ends, hears, idles, framed, peer_step}
use Rattle.node_model.specs.Peers as peers
use Rattle.node_model.specs.Ends.{is_ended_by}
use Rattle.node_model.specs.Clients.{is_busy}
use Rattle.run_model.specs.declared.flight.Flight.{Flight}
use Rattle.run_model.specs.declared.flight.Fate.{Fate}
use Rattle.run_model.specs.declared.flight.Fate.TheVariants.{Delivered, Lost}
use Rattle.run_model.specs.declared.happening.Happening.TheVariants.{Tells, NoSuchFrame, UnknownNode, Busy}
use Rattle.run_model.specs.Worlds.{World, Actor, APeer, AClient, Done, quiet, refused, then_on, acts, after_step, node_of, numbers_of, told_time}
use Rattle.run_model.specs.Worlds as worlds
use Rattle.run_model.specs.declared.moves.Move.{Move}
use Rattle.run_model.specs.declared.moves.Move.TheVariants.{Clock, Deliver, Lose, Drain, Ask}
use Rattle.run_model.specs.Moves.{aimed, with_fate, is_waiting, is_hearing, flown, flown_at, is_frame, delivered, lost_at, lost, drained, gone_on, is_asked, told_by, told, moved}
use Rattle.run_model.specs.Moves as moves
use Rattle.run_model.specs.Runs.{Event, decision_in, world_after, happenings}
use Rattle.overlay_laws.specs.Bytes.{AreAllBytes}
use Rattle.overlay_laws.proofs.Lists.{all_both, all_front}
use Rattle.overlay_laws.proofs.OneMap.{Holds, decided, holds_still}
use Rattle.overlay_laws.proofs.Events.{goes_handled, goes_flown_at, goes_moved}
use Rattle.overlay_laws.proofs.Sound.{HasModels, IsSane, IsRead, sane_message, read_in, payload_bytes}
use Rattle.overlay_laws.proofs.Tellings.{TellsAnswers, Nothing, Answer, Ends, tells_client}

-- ---- a peer

-- what is told of decisions makes sense
abbrev IsSaneNotice : (ℕ → DataModel) → Config → Notice → Type 0
IsSaneNotice models config (notices.Decision now r origin id q answer acted) = IsSane models config q
IsSaneNotice models config (notices.Answered id told) = Unit {0}
IsSaneNotice models config (notices.TimedOut id) = Unit {0}

abbrev AreSane : (ℕ → DataModel) → Config → List Notice → Type 0
AreSane models config told = AllByRecursion (IsSaneNotice models config) told

sane_if : (models : ℕ → DataModel) (config : Config) (b : Bool) (x y : Reaction) → AreSane models config x.notices → AreSane models config y.notices → AreSane models config (cond b x y).notices
sane_if models config true x y first other = first
sane_if models config false x y first other = other

sane_decides : (words : SignerWords) (models : ℕ → DataModel) (now : ℕ) (p : Peer) (from : NodeId) (e : Envelope) (r : ResourceId) (m : Message) → HasModels models p.node.config → IsRead p.node.config m
    → AreSane models p.node.config (decides words p now from e.header r m).notices
unfolding decides
sane_decides words models now p from e r m has is = (sane_message words models p.node.config r m has is, tt)

sane_handled : (words : SignerWords) (models : ℕ → DataModel) (now : ℕ) (p : Peer) (from : NodeId) (o : Option ResourceId) (e : Envelope) → HasModels models p.node.config → IsRead p.node.config (message_in p.node.config words e)
    → AreSane models p.node.config (handled words p now from o e).notices
unfolding handled
sane_handled words models now p from None e has is =
    sane_if models p.node.config (list_any (has_flag DESTINATION_CRITICAL) e.header.options) _ _ tt tt
sane_handled words models now p from (Some r) e has is =
    sane_if models p.node.config (list_any (has_flag DESTINATION_CRITICAL) e.header.options) _ _ tt
    (sane_if models p.node.config (is_decided e.code) _ _ (sane_decides words models now p from e r (message_in p.node.config words e) has is) tt)

sane_course : (words : SignerWords) (models : ℕ → DataModel) (now : ℕ) (p : Peer) (from : NodeId) (e : Envelope) (c : Course) → HasModels models p.node.config → IsRead p.node.config (message_in p.node.config words e)
    → AreSane models p.node.config (by_course words p now from e c).notices
sane_course words models now p from e Dropped has is = tt
sane_course words models now p from e (Refused cause) has is = tt
sane_course words models now p from e Here has is = sane_handled words models now p from None e has is
sane_course words models now p from e (Owned r) has is = sane_handled words models now p from (Some r) e has is
sane_course words models now p from e (Forwarded next h) has is = tt

sane_ends_head : (models : ℕ → DataModel) (now : ℕ) (p : Peer) (from : NodeId) (id : ℕ) → AreSane models p.node.config (ends p now from id).notices
unfolding ends
sane_ends_head models now p from id = tt

sane_answer : (words : SignerWords) (models : ℕ → DataModel) (now : ℕ) (p : Peer) (from : NodeId) (e : Envelope) (c : AnswerCourse) → AreSane models p.node.config (by_answer_course words p now from e c).notices
sane_answer words models now p from e answers.Ignored = tt
sane_answer words models now p from e (answers.Passed next h) = tt
sane_answer words models now p from e answers.Mine =
    sane_if models p.node.config (is_ended_by (message_in p.node.config words e) from e p.txns) _ _ (sane_ends_head models now p from e.header.id) tt

sane_reaction : (words : SignerWords) (models : ℕ → DataModel) (now : ℕ) (p : Peer) (from : NodeId) (size : ℕ) (e : Envelope) → HasModels models p.node.config → IsRead p.node.config (message_in p.node.config words e)
    → AreSane models p.node.config (reaction words p now from size e).notices
unfolding reaction
sane_reaction words models now p from size e has is =
    sane_if models p.node.config (is_answer e) _ _ (sane_answer words models now p from e (answer_course p.node.about.node.0 e.header))
    (sane_course words models now p from e (course from p.tables (state_of p.membership) size e.header) has is)

sane_opened : (words : SignerWords) (models : ℕ → DataModel) (now : ℕ) (p : Peer) (from : NodeId) (message : List ℕ) (o : Option Envelope) → AreBytes message → HasModels models p.node.config → heard_in p.node.config message ≡ o
    → AreSane models p.node.config (option_map_or (reaction words p now from (length message)) o (sends p [])).notices
sane_opened words models now p from message None are has at = tt
sane_opened words models now p from message (Some e) are has at = sane_reaction words models now p from (length message) e has (read_in p.node.config words message e are at)

sane_hearing : (words : SignerWords) (models : ℕ → DataModel) (now : ℕ) (from : NodeId) (sequence : ℕ) (message : List ℕ) (p : Peer) → AreBytes message → HasModels models p.node.config
    → AreSane models p.node.config (hears words now from sequence message p).outputs.notices
unfolding hears reaction_to
sane_hearing words models now from sequence message p are has = sane_opened words models now p from message (heard_in p.node.config message) are has refl

sane_payload : (words : SignerWords) (models : ℕ → DataModel) (now : ℕ) (from : NodeId) (bytes : List ℕ) (p : Peer) (o : Option (ℕ × List ℕ)) → AreBytes bytes → HasModels models p.node.config → payload_in bytes ≡ o
    → AreSane models p.node.config (option_map_or (λ x. hears words now from x.0 x.1 p) o (idles p)).outputs.notices
unfolding idles
sane_payload words models now from bytes p None are has at = tt
sane_payload words models now from bytes p (Some x) are has at = sane_hearing words models now from x.0 x.1 p (payload_bytes bytes x are at) has

sane_framed : (words : SignerWords) (models : ℕ → DataModel) (now : ℕ) (from : NodeId) (bytes : List ℕ) (p : Peer) → AreBytes bytes → HasModels models p.node.config
    → AreSane models p.node.config (framed words now from bytes p).outputs.notices
unfolding framed idles
sane_framed words models now from bytes p are has =
    elim (is_gone p.membership) as (λ b. AreSane models p.node.config (cond b (idles p) (option_map_or (λ x. hears words now from x.0 x.1 p) (payload_in bytes) (idles p))).outputs.notices) [
      | true ↦ tt
      | false ↦ sane_payload words models now from bytes p (payload_in bytes) are has refl
    ]

-- a cause whose bytes are bytes
abbrev IsByteCause : Cause → Type 0
IsByteCause (Framed from bytes) = AreBytes bytes
IsByteCause Clocked = Unit {0}
IsByteCause (Commanded command) = Unit {0}

sane_peer : (words : SignerWords) (models : ℕ → DataModel) (now : ℕ) (cause : Cause) (p : Peer) → IsByteCause cause → HasModels models p.node.config
    → AreSane models p.node.config (peer_step words now cause p).outputs.notices
unfolding idles peers.clocked
sane_peer words models now (Framed from bytes) p are has = sane_framed words models now from bytes p are has
sane_peer words models now Clocked p are has = tt
sane_peer words models now (Commanded command) p are has = tt

-- ---- decisions

sound_told : (models : ℕ → DataModel) (config : Config) (n : ℕ) (told : List Notice) → IsConfig config → HasModels models config → AreSane models config told → AreSound models (decided config (map (Tells n) told))
sound_told models config n [] is has sane = tt
sound_told models config n (notices.Decision now r origin id q answer acted ∷ told) is has sane =
    (record { config = is; kinds = has; keys = sane.0.keys; request = sane.0.sound }, sound_told models config n told is has sane.1)
sound_told models config n (notices.Answered id what ∷ told) is has sane = sound_told models config n told is has sane.1
sound_told models config n (notices.TimedOut id ∷ told) is has sane = sound_told models config n told is has sane.1

-- ---- frames

bytes_there : (fs : List Flight) (at : ℕ) (f : Flight) → slice_get fs at ≡ Some f → AllByRecursion (λ x. AreBytes x.bytes) fs → AreBytes f.bytes
bytes_there [] at f e all = absurd cc
bytes_there (x ∷ fs) zero f e all = let same : x ≡ f = cc in subst (λ (y : Flight). AreBytes y.bytes) same all.0
bytes_there (x ∷ fs) (suc at) f e all = bytes_there fs at f e all.1

bytes_before : (fs : List Flight) (at : ℕ) (f : Flight) (fate : Fate) → slice_get fs at ≡ Some f → AllByRecursion (λ x. AreBytes x.bytes) (slice_set fs at (record f { fate = fate })) → AllByRecursion (λ x. AreBytes x.bytes) fs
bytes_before [] at f fate e all = tt
bytes_before (x ∷ fs) zero f fate e all = let same : f ≡ x = cc in (subst (λ (y : Flight). AreBytes y.bytes) same all.0, all.1)
bytes_before (x ∷ fs) (suc at) f fate e all = (all.0, bytes_before fs at f fate e all.1)

-- ---- worlds

-- a part of an event: where all frames are bytes behind it, they were before it, and what was
-- decided in it makes sense
pub record Sane (models : ℕ → DataModel) (w : World) (d : Done) : Type 0 where
  pub back : AreAllBytes d.world → AreAllBytes w
  pub sound : AreAllBytes d.world → AreSound models (decided w.config d.happened)

-- a configuration within its limits that has these models
pub record IsFit (models : ℕ → DataModel) (config : Config) : Type 0 where
  pub limits : IsConfig config
  pub kinds : HasModels models config

sane_quiet : (models : ℕ → DataModel) (w v : World) → v.flights ≡ w.flights → Sane models w (quiet v)
sane_quiet models w v same = record { back = λ all. subst (AllByRecursion (λ (f : Flight). AreBytes f.bytes)) same all; sound = λ all. tt }

sane_no_frame : (models : ℕ → DataModel) (w : World) (line : ℕ) → Sane models w (refused w (NoSuchFrame line))
sane_no_frame models w line = record { back = λ all. all; sound = λ all. tt }

sane_no_node : (models : ℕ → DataModel) (w : World) (line : ℕ) → Sane models w (refused w (UnknownNode line))
sane_no_node models w line = record { back = λ all. all; sound = λ all. tt }

sane_busy : (models : ℕ → DataModel) (w : World) (line : ℕ) → Sane models w (refused w (Busy line))
sane_busy models w line = record { back = λ all. all; sound = λ all. tt }

sane_choice : (models : ℕ → DataModel) (w : World) (b : Bool) (d e : Done) → Sane models w d → Sane models w e → Sane models w (cond b d e)
sane_choice models w true d e first other = first
sane_choice models w false d e first other = other

-- one part after another
sane_both : (models : ℕ → DataModel) (w : World) (first : Done) (next : World → Done) → first.world.config ≡ w.config → Sane models w first → Sane models first.world (next first.world) → Sane models w (then_on first next)
sane_both models w first next config one two = record {
  back = λ all. one.back (two.back all);
  sound = λ all.
      subst (AreSound models) (sym (filter_map-append (decision_in w.config) first.happened (next first.world).happened))
      (all_both (IsSound models) (decided w.config first.happened) (decided w.config (next first.world).happened) (one.sound (two.back all))
      (subst (λ (c : Config). AreSound models (decided c (next first.world).happened)) config (two.sound all)));
}

sane_ends : (models : ℕ → DataModel) (config : Config) (ids : List ℕ) → AreSane models config (map notices.TimedOut ids)
sane_ends models config [] = tt
sane_ends models config (id ∷ ids) = (tt, sane_ends models config ids)

sane_answers : (models : ℕ → DataModel) (config : Config) (told : List Notice) → TellsAnswers told → AreSane models config told
sane_answers models config told (Nothing is) = rw is tt
sane_answers models config told (Answer id what is) = rw is (tt, tt)
sane_answers models config told (Ends ids is) = rw is (sane_ends models config ids)

-- what a node's step tells makes sense
sane_step : (words : SignerWords) (models : ℕ → DataModel) (now : ℕ) (cause : Cause) (config : Config) (a : Actor) → IsByteCause cause → HasModels models config → ((p : Peer) → a ≡ APeer p → p.node.config ≡ config)
    → AreSane models config (acts words now cause a).outputs.notices
sane_step words models now cause config (APeer p) are has same =
    let is : p.node.config ≡ config = same p refl in
    subst (λ (c : Config). AreSane models c (peer_step words now cause p).outputs.notices) is (sane_peer words models now cause p are (subst (HasModels models) (sym is) has))
sane_step words models now cause config (AClient c) are has same = sane_answers models config _ (tells_client words now cause c)

sane_after : (models : ℕ → DataModel) (n : ℕ) (w : World) (s : Step Actor) → IsFit models w.config → AreSane models w.config s.outputs.notices → Sane models w (after_step n w s)
unfolding after_step
sane_after models n w s fit told = record {
  back = λ all. all_front (λ (f : Flight). AreBytes f.bytes) w.flights _ all;
  sound = λ all. sound_told models w.config n s.outputs.notices fit.limits fit.kinds told;
}

sane_actor : (words : SignerWords) (models : ℕ → DataModel) (cause : Cause) (m : Map) (w : World) (n : ℕ) (o : Option Actor) → get w.actors n ≡ o → Holds m w → IsFit models w.config → IsByteCause cause
    → Sane models w (option_map_or (λ a. after_step n w (acts words w.clock cause a)) o (quiet w))
sane_actor words models cause m w n None at h fit are = sane_quiet models w w refl
sane_actor words models cause m w n (Some a) at h fit are =
    sane_after models n w (acts words w.clock cause a) fit
    (sane_step words models w.clock cause w.config a are fit.kinds (λ p is. h.config n p (at ∙ ap Some is)))

sane_node : (words : SignerWords) (models : ℕ → DataModel) (n : ℕ) (cause : Cause) (m : Map) (w : World) → Holds m w → IsFit models w.config → IsByteCause cause → Sane models w (worlds.handled words n cause w)
unfolding worlds.handled
sane_node words models n cause m w h fit are = sane_actor words models cause m w n (get w.actors n) refl h fit are

-- frames are bytes before a node's step where they are behind it
step_back : (words : SignerWords) (cause : Cause) (n : ℕ) (w : World) (o : Option Actor) → AreAllBytes (option_map_or (λ a. after_step n w (acts words w.clock cause a)) o (quiet w)).world → AreAllBytes w
unfolding after_step
step_back words cause n w None all = all
step_back words cause n w (Some a) all = all_front (λ (f : Flight). AreBytes f.bytes) w.flights _ all

heard_back : (words : SignerWords) (cause : Cause) (n : ℕ) (w : World) → AreAllBytes (worlds.handled words n cause w).world → AreAllBytes w
unfolding worlds.handled
heard_back words cause n w all = step_back words cause n w (get w.actors n) all

-- a frame is heard: all frames are bytes behind it, so this one is
sane_heard : (words : SignerWords) (models : ℕ → DataModel) (at : ℕ) (f : Flight) (m : Map) (w : World) (o : Option NodeId) → slice_get w.flights at ≡ Some f → Holds m w → IsFit models w.config
    → Sane models w (option_map_or (λ from. worlds.handled words f.hearer (Framed from f.bytes) (with_fate Delivered at f w)) o (quiet w))
sane_heard words models at f m w None there h fit = sane_quiet models w w refl
sane_heard words models at f m w (Some from) there h fit =
    let v : World = with_fate Delivered at f w in
    let d : Done = worlds.handled words f.hearer (Framed from f.bytes) v in
    record {
      back = λ all. bytes_before w.flights at f Delivered there (heard_back words (Framed from f.bytes) f.hearer v all);
      sound = λ all.
          (sane_node words models f.hearer (Framed from f.bytes) m v (holds_still m w v refl refl h) fit
          (bytes_there w.flights at f there (bytes_before w.flights at f Delivered there (heard_back words (Framed from f.bytes) f.hearer v all)))).sound all;
    }

sane_lost : (models : ℕ → DataModel) (at : ℕ) (w : World) (o : Option Flight) → slice_get w.flights at ≡ o → Sane models w (quiet (option_map_or (λ f. cond (is_waiting f) (with_fate Lost at f w) w) o w))
sane_lost models at w None there = sane_quiet models w w refl
sane_lost models at w (Some f) there =
    elim (is_waiting f) as (λ b. Sane models w (quiet (cond b (with_fate Lost at f w) w))) [
      | true ↦ record { back = λ all. bytes_before w.flights at f Lost there all; sound = λ all. tt }
      | false ↦ sane_quiet models w w refl
    ]

sane_flown : (words : SignerWords) (models : ℕ → DataModel) (at : ℕ) (f : Flight) (m : Map) (w : World) → slice_get w.flights at ≡ Some f → Holds m w → IsFit models w.config → Sane models w (flown words at f w)
unfolding flown lost_at
sane_flown words models at f m w there h fit =
    sane_choice models w (is_hearing (get w.actors f.hearer)) _ _ (sane_heard words models at f m w (node_of w.names f.sender) there h fit)
    (sane_lost models at w (slice_get w.flights at) refl)

sane_place : (words : SignerWords) (models : ℕ → DataModel) (at : ℕ) (m : Map) (w : World) (o : Option Flight) → slice_get w.flights at ≡ o → Holds m w → IsFit models w.config → Sane models w (option_map_or (λ f. flown words at f w) o (quiet w))
sane_place words models at m w None there h fit = sane_quiet models w w refl
sane_place words models at m w (Some f) there h fit = sane_flown words models at f m w there h fit

sane_flown_at : (words : SignerWords) (models : ℕ → DataModel) (at : ℕ) (m : Map) (w : World) → Holds m w → IsFit models w.config → Sane models w (flown_at words at w)
unfolding flown_at
sane_flown_at words models at m w h fit = sane_place words models at m w (slice_get w.flights at) refl h fit

fit_still : (models : ℕ → DataModel) (c d : Config) → d ≡ c → IsFit models c → IsFit models d
fit_still models c d e fit = subst (IsFit models) (sym e) fit

sane_next : (words : SignerWords) (models : ℕ → DataModel) (n : ℕ) (m : Map) (w : World) (o : Option ℕ) → Holds m w → IsFit models w.config → ((k : Map) (v : World) → Holds k v → IsFit models v.config → Sane models v (drained words n v))
    → Sane models w (option_map_or (λ at. then_on (flown_at words at w) (drained words n)) o (quiet w))
sane_next words models n m w None h fit later = sane_quiet models w w refl
sane_next words models n m w (Some at) h fit later =
    let first : Done = flown_at words at w in
    let g = goes_flown_at words at m w h in
    sane_both models w first (drained words n) g.config (sane_flown_at words models at m w h fit) (later (map_from m (decided w.config first.happened)) first.world g.holds (fit_still models w.config first.world.config g.config fit))

sane_drained : (words : SignerWords) (models : ℕ → DataModel) (n : ℕ) (m : Map) (w : World) → Holds m w → IsFit models w.config → Sane models w (drained words n w)
unfolding drained
sane_drained words models zero m w h fit = sane_quiet models w w refl
sane_drained words models (suc n) m w h fit = sane_next words models n m w (position is_waiting w.flights) h fit (λ k v g fits. sane_drained words models n k v g fits)

sane_told_time : (words : SignerWords) (models : ℕ → DataModel) (ns : List ℕ) (m : Map) (w : World) → Holds m w → IsFit models w.config → Sane models w (told_time words ns w)
unfolding told_time
sane_told_time words models [] m w h fit = sane_quiet models w w refl
sane_told_time words models (n ∷ ns) m w h fit =
    let first : Done = worlds.handled words n Clocked w in
    let g = goes_handled words n Clocked m w h in
    sane_both models w first (told_time words ns) g.config (sane_node words models n Clocked m w h fit tt)
    (sane_told_time words models ns (map_from m (decided w.config first.happened)) first.world g.holds (fit_still models w.config first.world.config g.config fit))

sane_clocked : (words : SignerWords) (models : ℕ → DataModel) (ms : ℕ) (m : Map) (w : World) → Holds m w → IsFit models w.config → Sane models w (moves.clocked words ms w)
unfolding moves.clocked
sane_clocked words models ms m w h fit =
    let on : World = gone_on ms w in
    let s = sane_told_time words models (numbers_of w) m on (holds_still m w on refl refl h) fit in
    record { back = s.back; sound = s.sound }

sane_told_by : (words : SignerWords) (models : ℕ → DataModel) (line client : ℕ) (command : Command) (m : Map) (w : World) (o : Option Actor) → Holds m w → IsFit models w.config → Sane models w (told_by words line client command w o)
sane_told_by words models line client command m w (Some (AClient c)) h fit =
    sane_choice models w (is_busy c) _ _ (sane_busy models w line) (sane_node words models client (Commanded command) m w h fit tt)
sane_told_by words models line client command m w (Some (APeer p)) h fit = sane_no_node models w line
sane_told_by words models line client command m w None h fit = sane_no_node models w line

sane_asking : (words : SignerWords) (models : ℕ → DataModel) (line client : ℕ) (command : NodeId → Command) (m : Map) (w : World) (o : Option NodeId) → Holds m w → IsFit models w.config
    → Sane models w (option_map_or (λ id. told_by words line client (command id) w (get w.actors client)) o (refused w (UnknownNode line)))
sane_asking words models line client command m w None h fit = sane_no_node models w line
sane_asking words models line client command m w (Some id) h fit = sane_told_by words models line client (command id) m w (get w.actors client) h fit

sane_moved : (words : SignerWords) (models : ℕ → DataModel) (line : ℕ) (move : Move) (m : Map) (w : World) → Holds m w → IsFit models w.config → Sane models w (moved words line move w)
unfolding delivered lost lost_at told
sane_moved words models line (Clock ms) m w h fit = sane_clocked words models ms m w h fit
sane_moved words models line (Deliver k) m w h fit = sane_choice models w (is_frame k w) _ _ (sane_flown_at words models (k - 1) m w h fit) (sane_no_frame models w line)
sane_moved words models line (Lose k) m w h fit = sane_choice models w (is_frame k w) _ _ (sane_lost models (k - 1) w (slice_get w.flights (k - 1)) refl) (sane_no_frame models w line)
sane_moved words models line (Drain n) m w h fit = sane_drained words models n m w h fit
sane_moved words models line (Ask client peer command) m w h fit =
    sane_choice models w (is_asked (get w.actors peer)) _ _ (sane_asking words models line client (aimed command) m w (node_of w.names peer) h fit) (sane_no_node models w line)

-- ---- runs

-- a run: where all frames are bytes at its end they were at its beginning, and all that was decided
-- in it makes sense
pub record SaneRun (words : SignerWords) (models : ℕ → DataModel) (w : World) (es : List Event) : Type 0 where
  pub back : AreAllBytes (world_after words w es) → AreAllBytes w
  pub sound : AreAllBytes (world_after words w es) → AreSound models (decided w.config (happenings words w es))

pub sane_run : (words : SignerWords) (models : ℕ → DataModel) (m : Map) (w : World) (es : List Event) → Holds m w → IsFit models w.config → SaneRun words models w es
unfolding world_after happenings
sane_run words models m w [] h fit = record { back = λ all. all; sound = λ all. tt }
sane_run words models m w (e ∷ es) h fit =
    let first : Done = moved words e.0 e.1 w in
    let g = goes_moved words e.0 e.1 m w h in
    let one = sane_moved words models e.0 e.1 m w h fit in
    let rest = sane_run words models (map_from m (decided w.config first.happened)) first.world es g.holds (fit_still models w.config first.world.config g.config fit) in
    record {
      back = λ all. one.back (rest.back all);
      sound = λ all.
          subst (AreSound models) (sym (filter_map-append (decision_in w.config) first.happened (happenings words first.world es)))
          (all_both (IsSound models) (decided w.config first.happened) (decided w.config (happenings words first.world es)) (one.sound (rest.back all))
          (subst (λ (c : Config). AreSound models (decided c (happenings words first.world es))) g.config (rest.sound all)));
    }
