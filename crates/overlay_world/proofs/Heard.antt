-- A frame that was read from an air, and what its node makes of it.
use Rattle.std.proofs.Common.{◌≡◌, ◌≢◌, ℕ, ◌-◌, ◌<◌, ◌≤◌, Bool, List, ◌++◌, true, false, cond, not, length, map, refl, sym, ap, ◌∙◌, arith}
use Rattle.std.specs.Prelude.{Some, None, ◌==◌, ◌||◌, nat_lt, slice_get, slice_set}
use Rattle.std.specs.Ordering.{nat_cmp}
use Rattle.std.specs.FinMap.{FinMap, get}
use Rattle.std.proofs.lemmas.Bool.{eqb-false, ltb-false}
use Rattle.std.proofs.lemmas.Option.{slice_get_past}
use Rattle.reload_ids.specs.declared.NodeId.{NodeId}
use Rattle.reload_base.specs.declared.air.AirFrame.{AirFrame}
use Rattle.reload_base.specs.Outside.{AirView, size_of}
use Rattle.node_messages.specs.Signed.{SignerWords}
use Rattle.node_model.specs.declared.input.Outputs.{Outputs}
use Rattle.node_model.specs.Nodes.{Cause, Framed}
use Rattle.run_model.specs.declared.limits.TheConstants.{MAX_AIR}
use Rattle.run_model.specs.declared.flight.Flight.{Flight}
use Rattle.run_model.specs.declared.flight.Fate.{Fate}
use Rattle.run_model.specs.declared.flight.Fate.TheVariants.{Delivered, Lost}
use Rattle.run_model.specs.declared.happening.Happening.TheVariants.{Tells}
use Rattle.run_model.specs.Worlds.{World, Actor, Done, quiet, flight_of, handled, node_of}
use Rattle.run_model.specs.Moves.{with_fate, is_hearing, lost_at, lost, flown_at}
use Rattle.run_model.specs.Stops.{frames_in, load_of}
use Rattle.frames_in_flight.specs.Flying.{waits, flight_in, flying}
use Rattle.frames_in_flight.specs.Reading.{IsUnread}
use Rattle.frames_in_flight.specs.declared.reading.FrameError.{FrameError}
use Rattle.frames_in_flight.specs.declared.reading.FrameError.TheVariants as errors
use Rattle.frames_in_flight.proofs.Flying.{flying_count, with_another}
use Rattle.run_text.specs.Lines.{happened_text}
use Rattle.overlay_world.specs.declared.fault.StepFault.{StepFault}
use Rattle.overlay_world.specs.Unread.{of_frame}
use Rattle.overlay_world.specs.Standings.{Standing, world_in}
use Rattle.overlay_world.specs.Sendings.{sent_by, waiting_for, with_frames, IsUnheard, Halts, IsNone, IsFullAt}
use Rattle.overlay_world.specs.Parts.{scene_of, IsSound, Does}
use Rattle.overlay_world.proofs.Standings.{held_many, held_at, lost_flying, sent_fly, set_held, sent_is, flies_at}
use Rattle.overlay_world.proofs.Frames.{frames_same, adds_flown_at}
use Rattle.overlay_world.proofs.Stopping.{frames_after_loss}
use Rattle.overlay_world.proofs.Flown.{actors_after, outputs_of, put_out, flown_none, flown_lost, flown_unnamed, lost_world, lost_there, frames_unheard, fly_halts, front_before, handled_is, handled_none, heard_out, put_halts, quiet_does, out_world, out_told, out_air, fated_has}

module _ (words : SignerWords) (at : ℕ) (s : Standing) (air : AirView) (lines : List ℕ) (sound : IsSound (scene_of s air lines)) where
  -- nothing is sent and told
  stills : (next : Standing) → flown_at words at (world_in s air) ≡ quiet (world_in next air) → frames_in (world_in next air) ≡ frames_in (world_in s air) → Does (flown_at words at (world_in s air)) (scene_of s air lines) (scene_of next air lines)
  stills next is same = quiet_does (flown_at words at (world_in s air)) s next air lines is same sound

  -- there is no such frame
  pub nothing_flies : length s.fates ≤ at → Does (flown_at words at (world_in s air)) (scene_of s air lines) (scene_of s air lines)
  nothing_flies le =
      let count = flying_count s.fates air.sent in
      stills s (flown_none words at (world_in s air) (slice_get_past (world_in s air).flights at (omega (arith, le, count)))) refl

  -- what keeps it from being read
  pub unread_halts : (new : AirView) (e : FrameError) → IsUnread air new e → Halts (frames_in (flown_at words at (world_in s air)).world) (IsFullAt at (world_in s air)) air new (of_frame e)
  unread_halts new errors.Failed unread =
      let front = front_before (world_in s air) (flown_at words at (world_in s air)) air sound.held (adds_flown_at words at (world_in s air)) in
      ((front.0, front.1 ∙ ap (λ (a : AirView). a.sent ++ front.0) (sym unread)), ap (λ (a : AirView). a.faults) unread)
  unread_halts new errors.NoMemory unread =
      let front = front_before (world_in s air) (flown_at words at (world_in s air)) air sound.held (adds_flown_at words at (world_in s air)) in
      ((front.0, front.1 ∙ ap (λ (a : AirView). a.sent ++ front.0) (sym unread)), ap (λ (a : AirView). a.faults) unread)

  module _ (frame : AirFrame) (there : slice_get air.sent at ≡ Some frame) where
    -- no node hears it
    pub unheard : (fates : List Fate) → is_hearing (get s.actors frame.to) ≡ false → ((x : Fate) → slice_get s.fates at ≡ Some x → fates ≡ cond (waits x) (slice_set s.fates at Lost) s.fates)
        → Does (flown_at words at (world_in s air)) (scene_of s air lines) (scene_of (record s { fates = fates }) air lines)
    unheard fates deaf lost =
        let place = held_at s air at frame sound.held there in
        let f : Flight = flight_in place.0 frame in
        let w : World = world_in s air in
        let flights = lost_flying s.fates fates air.sent at f place.2 (lost place.0 place.1) in
        stills (record s { fates = fates })
        (flown_lost words at w f place.2 deaf ∙ ap (λ (l : List Flight). quiet (record w { flights = l })) (sym flights))
        (frames_unheard at w f (flying fates air.sent) place.2 flights)

    module _ (hears : is_hearing (get s.actors frame.to) ≡ true) where
      -- nobody knows who sent it
      pub unnamed : node_of s.names frame.from ≡ None → Does (flown_at words at (world_in s air)) (scene_of s air lines) (scene_of s air lines)
      unnamed named =
          let place = held_at s air at frame sound.held there in
          stills s (flown_unnamed words at (world_in s air) (flight_in place.0 frame) place.2 hears named) refl

      -- what keeps it from its node
      pub heavy : (e : StepFault) → IsUnheard frame.to (load_of (get s.actors frame.to)) e → Halts (frames_in (flown_at words at (world_in s air)).world) (IsFullAt at (world_in s air)) air air e
      heavy e full =
          let place = held_at s air at frame sound.held there in
          fly_halts words at (world_in s air) (flight_in place.0 frame) air e place.2 hears sound.held full

      module _ (from : NodeId) (named : node_of s.names frame.from ≡ Some from) (actors : FinMap nat_cmp Actor) (out : Outputs)
          (puts : Some out ≡ outputs_of words frame.to (Framed from frame.bytes) (world_in s air)) (acted : actors ≡ actors_after words frame.to (Framed from frame.bytes) (world_in s air)) where
        -- its node heard it
        heard_is : (let place = held_at s air at frame sound.held there in flown_at words at (world_in s air) ≡ put_out frame.to (with_fate Delivered at (flight_in place.0 frame) (world_in s air)) actors out)
        heard_is =
            let place = held_at s air at frame sound.held there in
            heard_out words at (world_in s air) (flight_in place.0 frame) from actors out place.2 hears named puts acted

        pub heard : (fates next : List Fate) (after : List ℕ) (new : AirView) → fates ≡ slice_set s.fates at Delivered → next ≡ fates ++ waiting_for out.frames
            → new ≡ with_frames air (sent_by s.names frame.to out.frames) → after ≡ lines ++ happened_text s.names (map (Tells frame.to) out.notices) → size_of new.sent ≤ MAX_AIR
            → Does (flown_at words at (world_in s air)) (scene_of s air lines) (scene_of (record s { actors = actors; fates = next }) new after)
        heard fates next after new settled added sent told room =
            let place = held_at s air at frame sound.held there in
            let f : Flight = flight_in place.0 frame in
            let w : World = world_in s air in
            let v : World = with_fate Delivered at f w in
            let d : Done = flown_at words at w in
            let many : length fates ≡ length air.sent = ap (λ (l : List Fate). length l) settled ∙ set_held s air at Delivered sound.held in
            let flights = sent_fly s.names frame.to out.frames fates next air new many added sent ∙ ap (λ l. flying l air.sent ++ map (flight_of s.names frame.to) out.frames) settled ∙ ap (λ l. l ++ map (flight_of s.names frame.to) out.frames) (with_another s.fates air.sent at f Delivered place.2) in
            record {
              world = out_world frame.to v actors out d (flying next new.sent) heard_is flights;
              told = out_told frame.to v actors out d lines after heard_is told;
              sent = out_air frame.to v actors out d air new heard_is (fated_has at w f air place.2 sound.held) sent;
              room = room;
            }

        -- what stops what it puts out
        pub heard_halts : (new : AirView) (e : StepFault) → Halts (air.sent ++ sent_by s.names frame.to out.frames) IsNone air new e
            → Halts (frames_in (flown_at words at (world_in s air)).world) (IsFullAt at (world_in s air)) air new e
        heard_halts new e h =
            let place = held_at s air at frame sound.held there in
            let f : Flight = flight_in place.0 frame in
            let w : World = world_in s air in
            put_halts frame.to (with_fate Delivered at f w) actors out (flown_at words at w) (IsFullAt at w) air new e (fated_has at w f air place.2 sound.held) heard_is h

-- ---- a node that handles something

module _ (words : SignerWords) (n : ℕ) (cause : Cause) (s : Standing) (air : AirView) (lines : List ℕ) (sound : IsSound (scene_of s air lines)) (actors : FinMap nat_cmp Actor) (acted : actors ≡ actors_after words n cause (world_in s air)) where
  -- there is no such node
  pub nobody_does : None ≡ outputs_of words n cause (world_in s air) → Does (handled words n cause (world_in s air)) (scene_of s air lines) (scene_of (record s { actors = actors }) air lines)
  nobody_does puts =
      let w : World = world_in s air in
      let next : Standing = record s { actors = actors } in
      quiet_does (handled words n cause w) s next air lines (handled_none words n cause w actors puts acted) (frames_same w (world_in next air) refl) sound

  -- it puts these out
  pub node_does : (out : Outputs) (next : List Fate) (after : List ℕ) (new : AirView) → Some out ≡ outputs_of words n cause (world_in s air) → next ≡ s.fates ++ waiting_for out.frames
      → new ≡ with_frames air (sent_by s.names n out.frames) → after ≡ lines ++ happened_text s.names (map (Tells n) out.notices) → size_of new.sent ≤ MAX_AIR
      → Does (handled words n cause (world_in s air)) (scene_of s air lines) (scene_of (record s { actors = actors; fates = next }) new after)
  node_does out next after new puts added sent told room =
      let w : World = world_in s air in
      let d : Done = handled words n cause w in
      let is = handled_is words n cause w actors out puts acted in
      record {
        world = out_world n w actors out d (flying next new.sent) is (sent_fly s.names n out.frames s.fates next air new (held_many s air sound.held) added sent);
        told = out_told n w actors out d lines after is told;
        sent = out_air n w actors out d air new is sound.held sent;
        room = room;
      }

-- ---- a frame that is lost

both_false : (a b : Bool) → not (a || b) ≡ true → (a ≡ false) × (b ≡ false)
both_false true b e = absurd (cc)
both_false false true e = absurd (cc)
both_false false false e = (refl, refl)

-- a frame that was sent has a place
pub place_there : (k : ℕ) (s : Standing) → not ((k == 0) || nat_lt (length s.fates) k) ≡ true → k - 1 < length s.fates
place_there k s e =
    let h = both_false (k == 0) (nat_lt (length s.fates) k) e in
    let some : k ≢ 0 = eqb-false k 0 h.0 in
    let within : k ≤ length s.fates = ltb-false (length s.fates) k h.1 in
    omega (arith, some, within)

-- the world then
lost_standing : (line k : ℕ) (s : Standing) (air : AirView) (fates : List Fate) → not ((k == 0) || nat_lt (length s.fates) k) ≡ true
    → ((x : Fate) → slice_get s.fates (k - 1) ≡ Some x → fates ≡ cond (waits x) (slice_set s.fates (k - 1) Lost) s.fates)
    → world_in (record s { fates = fates }) air ≡ (lost line k (world_in s air)).world
lost_standing line k s air fates there lose =
    let place = flies_at s.fates air.sent (k - 1) (place_there k s there) in
    let f : Flight = flight_in place.0 place.1 in
    lost_world line k (world_in s air) (flying fates air.sent) f (sent_is k s air ∙ there) place.3
    (lost_flying s.fates fates air.sent (k - 1) f place.3 (lose place.0 place.2))

-- nothing else happens
pub lost_does : (line k : ℕ) (s : Standing) (air : AirView) (lines : List ℕ) (fates : List Fate) → IsSound (scene_of s air lines) → not ((k == 0) || nat_lt (length s.fates) k) ≡ true
    → ((x : Fate) → slice_get s.fates (k - 1) ≡ Some x → fates ≡ cond (waits x) (slice_set s.fates (k - 1) Lost) s.fates)
    → Does (lost line k (world_in s air)) (scene_of s air lines) (scene_of (record s { fates = fates }) air lines)
lost_does line k s air lines fates sound there lose =
    let w : World = world_in s air in
    let next : Standing = record s { fates = fates } in
    let then = lost_standing line k s air fates there lose in
    let quiets = lost_there line k w (sent_is k s air ∙ there) in
    let same : lost_at (k - 1) w ≡ world_in next air = sym (ap (λ (d : Done). d.world) quiets) ∙ sym then in
    quiet_does (lost line k w) s next air lines (quiets ∙ ap (λ (v : World). quiet v) same) (ap frames_in then ∙ frames_after_loss line k w) sound
