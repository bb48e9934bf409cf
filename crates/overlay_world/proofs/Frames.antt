-- The frames of worlds: each part of an event adds some behind those that there were.
use Rattle.std.proofs.Common.{◌≡◌, ℕ, zero, suc, List, [], ◌∷◌, ◌++◌, Bool, true, false, cond, map, refl, sym, ap, ◌∙◌, append_assoc}
use Rattle.std.specs.Prelude.{Option, Some, None, position, slice_get, slice_set}
use Rattle.std.specs.Option.{option_map_or}
use Rattle.std.specs.FinMap.{get}
use Rattle.std.proofs.lemmas.List.{append-nil, map-append}
use Rattle.reload_ids.specs.declared.NodeId.{NodeId}
use Rattle.reload_base.specs.declared.air.AirFrame.{AirFrame}
use Rattle.node_messages.specs.Signed.{SignerWords}
use Rattle.node_model.specs.Nodes.{Cause, Framed, Step}
use Rattle.run_model.specs.declared.flight.Flight.{Flight}
use Rattle.run_model.specs.declared.flight.Fate.{Fate}
use Rattle.run_model.specs.declared.flight.Fate.TheVariants.{Delivered, Lost}
use Rattle.run_model.specs.Worlds.{World, Actor, Done, quiet, then_on, acts, flight_of, after_step, handled, node_of}
use Rattle.run_model.specs.Moves.{with_fate, is_waiting, is_hearing, flown, flown_at, lost_at, drained}
use Rattle.run_model.specs.Stops.{air_frame, frames_in}

-- ---- frames

-- the frames of a world are those of its flights
pub frames_are : (w : World) → frames_in w ≡ map air_frame w.flights
unfolding frames_in
frames_are w = refl

-- with other nodes or another clock a world has the same frames
pub frames_same : (w v : World) → v.flights ≡ w.flights → frames_in v ≡ frames_in w
unfolding frames_in
frames_same w v e = ap (λ (l : List Flight). map air_frame l) e

-- another fate changes no frame
fate_still : (fate : Fate) (fs : List Flight) (at : ℕ) (f : Flight) → slice_get fs at ≡ Some f → map air_frame (slice_set fs at (record f { fate = fate })) ≡ map air_frame fs
fate_still fate [] at f e = refl
fate_still fate (x ∷ fs) zero f e = let same : f ≡ x = cc in ap (λ (y : Flight). air_frame y ∷ map air_frame fs) same
fate_still fate (x ∷ fs) (suc at) f e = ap (λ l. air_frame x ∷ l) (fate_still fate fs at f e)

pub frames_fated : (fate : Fate) (at : ℕ) (f : Flight) (w : World) → slice_get w.flights at ≡ Some f → frames_in (with_fate fate at f w) ≡ frames_in w
unfolding frames_in
frames_fated fate at f w e = fate_still fate w.flights at f e

lost_still : (at : ℕ) (w : World) (o : Option Flight) → slice_get w.flights at ≡ o → frames_in (option_map_or (λ f. cond (is_waiting f) (with_fate Lost at f w) w) o w) ≡ frames_in w
lost_still at w None e = refl
lost_still at w (Some f) e =
    elim (is_waiting f) as (λ b. frames_in (cond b (with_fate Lost at f w) w) ≡ frames_in w) [
      | true ↦ frames_fated Lost at f w e
      | false ↦ refl
    ]

pub frames_lost : (at : ℕ) (w : World) → frames_in (lost_at at w) ≡ frames_in w
unfolding lost_at
frames_lost at w = lost_still at w (slice_get w.flights at) refl

-- ---- what is added

-- a part of an event adds some frames behind those of a world
abbrev pub Adds : World → Done → Type 0
Adds w d = (more : List AirFrame) × (frames_in d.world ≡ frames_in w ++ more)

pub adds_none : (w v : World) → frames_in v ≡ frames_in w → Adds w (quiet v)
adds_none w v e = ([], e ∙ sym (append-nil (frames_in w)))

pub adds_from : (w v : World) (d : Done) → frames_in v ≡ frames_in w → Adds v d → Adds w d
adds_from w v d e h = (h.0, h.1 ∙ ap (λ l. l ++ h.0) e)

adds_if : (w : World) (b : Bool) (d e : Done) → Adds w d → Adds w e → Adds w (cond b d e)
adds_if w true d e first other = first
adds_if w false d e first other = other

pub adds_both : (w : World) (first : Done) (next : World → Done) → Adds w first → Adds first.world (next first.world) → Adds w (then_on first next)
adds_both w first next one two =
    (one.0 ++ two.0, two.1 ∙ ap (λ l. l ++ two.0) one.1 ∙ append_assoc (frames_in w) one.0 two.0)

-- a node's step adds what it sends
pub stepped : (n : ℕ) (w : World) (s : Step Actor) → frames_in (after_step n w s).world ≡ frames_in w ++ map air_frame (map (flight_of w.names n) s.outputs.frames)
unfolding after_step frames_in
stepped n w s = map-append air_frame w.flights (map (flight_of w.names n) s.outputs.frames)

adds_actor : (words : SignerWords) (cause : Cause) (w : World) (n : ℕ) (o : Option Actor) → Adds w (option_map_or (λ a. after_step n w (acts words w.clock cause a)) o (quiet w))
adds_actor words cause w n None = adds_none w w refl
adds_actor words cause w n (Some a) =
    (map air_frame (map (flight_of w.names n) (acts words w.clock cause a).outputs.frames), stepped n w (acts words w.clock cause a))

pub adds_handled : (words : SignerWords) (n : ℕ) (cause : Cause) (w : World) → Adds w (handled words n cause w)
unfolding handled
adds_handled words n cause w = adds_actor words cause w n (get w.actors n)

adds_heard : (words : SignerWords) (at : ℕ) (f : Flight) (w : World) (o : Option NodeId) → slice_get w.flights at ≡ Some f
    → Adds w (option_map_or (λ from. handled words f.hearer (Framed from f.bytes) (with_fate Delivered at f w)) o (quiet w))
adds_heard words at f w None e = adds_none w w refl
adds_heard words at f w (Some from) e =
    adds_from w (with_fate Delivered at f w) (handled words f.hearer (Framed from f.bytes) (with_fate Delivered at f w)) (frames_fated Delivered at f w e) (adds_handled words f.hearer (Framed from f.bytes) (with_fate Delivered at f w))

adds_flown : (words : SignerWords) (at : ℕ) (f : Flight) (w : World) → slice_get w.flights at ≡ Some f → Adds w (flown words at f w)
unfolding flown
adds_flown words at f w e =
    adds_if w (is_hearing (get w.actors f.hearer)) _ _ (adds_heard words at f w (node_of w.names f.sender) e) (adds_none w (lost_at at w) (frames_lost at w))

adds_place : (words : SignerWords) (at : ℕ) (w : World) (o : Option Flight) → slice_get w.flights at ≡ o → Adds w (option_map_or (λ f. flown words at f w) o (quiet w))
adds_place words at w None e = adds_none w w refl
adds_place words at w (Some f) e = adds_flown words at f w e

pub adds_flown_at : (words : SignerWords) (at : ℕ) (w : World) → Adds w (flown_at words at w)
unfolding flown_at
adds_flown_at words at w = adds_place words at w (slice_get w.flights at) refl

adds_next : (words : SignerWords) (n : ℕ) (w : World) (o : Option ℕ) → ((v : World) → Adds v (drained words n v))
    → Adds w (option_map_or (λ at. then_on (flown_at words at w) (drained words n)) o (quiet w))
adds_next words n w None later = adds_none w w refl
adds_next words n w (Some at) later = adds_both w (flown_at words at w) (drained words n) (adds_flown_at words at w) (later (flown_at words at w).world)

pub adds_drained : (words : SignerWords) (n : ℕ) (w : World) → Adds w (drained words n w)
unfolding drained
adds_drained words zero w = adds_none w w refl
adds_drained words (suc n) w = adds_next words n w (position is_waiting w.flights) (λ v. adds_drained words n v)
