-- Worlds whose frames lie in an air.
use Rattle.std.proofs.Common.{◌≡◌, ℕ, zero, suc, ◌<◌, List, [], ◌∷◌, ◌++◌, true, false, cond, not, length, map, refl, ap, ◌∙◌, arith}
use Rattle.std.specs.Prelude.{Some, ◌==◌, ◌||◌, nat_lt, position, slice_get, slice_set}
use Rattle.std.proofs.lemmas.Option.{slice_get_within}
use Rattle.reload_base.specs.declared.air.AirFrame.{AirFrame}
use Rattle.reload_base.specs.Outside.{AirView}
use Rattle.request_words.specs.declared.node.DeclaredNode.{DeclaredNode}
use Rattle.node_model.specs.Links.{Sent}
use Rattle.run_model.specs.declared.flight.Flight.{Flight}
use Rattle.run_model.specs.declared.flight.Fate.{Fate}
use Rattle.run_model.specs.declared.flight.Fate.TheVariants.{Lost}
use Rattle.run_model.specs.Worlds.{flight_of}
use Rattle.run_model.specs.Moves.{is_waiting, is_frame}
use Rattle.frames_in_flight.specs.Flying.{waits, flight_in, no_frame, flying}
use Rattle.frames_in_flight.proofs.Flying.{as_many, at_place, with_another, with_more, flying_count, lowest_waits}
use Rattle.overlay_world.specs.Standings.{Standing, world_in, IsHeld}
use Rattle.overlay_world.specs.Sendings.{sent_by, waiting_for, with_frames}
use Rattle.overlay_world.proofs.Frames.{frames_are}

-- each frame has its fate
pub held_many : (s : Standing) (air : AirView) → IsHeld s air → length s.fates ≡ length air.sent
held_many s air held = as_many s.fates air.sent (held ∙ frames_are (world_in s air))

-- a frame that was read has a place
pub held_within : (s : Standing) (air : AirView) (at : ℕ) (f : AirFrame) → IsHeld s air → slice_get air.sent at ≡ Some f → at < length s.fates
held_within s air at f held there =
    let many = held_many s air held in
    let within = slice_get_within air.sent at f there in
    omega (arith, many, within)

-- its fate, and how it flies
pub held_at : (s : Standing) (air : AirView) (at : ℕ) (f : AirFrame) → IsHeld s air → slice_get air.sent at ≡ Some f
    → (fate : Fate) × (slice_get s.fates at ≡ Some fate) × (slice_get (world_in s air).flights at ≡ Some (flight_in fate f))
held_at s air at f held there = at_place s.fates air.sent at f (held_within s air at f held there) there

-- one that is lost where it waits
pub lost_flying : (fates next : List Fate) (frames : List AirFrame) (at : ℕ) (f : Flight) → slice_get (flying fates frames) at ≡ Some f → next ≡ cond (is_waiting f) (slice_set fates at Lost) fates
    → flying next frames ≡ cond (is_waiting f) (slice_set (flying fates frames) at (record f { fate = Lost })) (flying fates frames)
lost_flying fates next frames at f there is =
    ap (λ l. flying l frames) is
    ∙ elim (is_waiting f) as (λ b. flying (cond b (slice_set fates at Lost) fates) frames ≡ cond b (slice_set (flying fates frames) at (record f { fate = Lost })) (flying fates frames)) [
      | true ↦ with_another fates frames at f Lost there
      | false ↦ refl
    ]

waiting_fly : (names : List DeclaredNode) (n : ℕ) (frames : List Sent) → flying (waiting_for frames) (sent_by names n frames) ≡ map (flight_of names n) frames
unfolding flying
waiting_fly names n [] = refl
waiting_fly names n (x ∷ frames) = ap (λ l. flight_of names n x ∷ l) (waiting_fly names n frames)

-- more that were sent
pub sent_fly : (names : List DeclaredNode) (n : ℕ) (frames : List Sent) (fates next : List Fate) (old new : AirView) → length fates ≡ length old.sent → next ≡ fates ++ waiting_for frames → new ≡ with_frames old (sent_by names n frames)
    → flying next new.sent ≡ flying fates old.sent ++ map (flight_of names n) frames
sent_fly names n frames fates next old new many is sent =
    ap (λ l. flying l new.sent) is
    ∙ ap (λ (a : AirView). flying (fates ++ waiting_for frames) a.sent) sent
    ∙ with_more fates (waiting_for frames) old.sent (sent_by names n frames) many
    ∙ ap (λ l. flying fates old.sent ++ l) (waiting_fly names n frames)

-- a fate is changed, and none is added
set_many : {X : Type 0} (xs : List X) (i : ℕ) (x : X) → length (slice_set xs i x) ≡ length xs
set_many [] i x = refl
set_many (y ∷ xs) zero x = refl
set_many (y ∷ xs) (suc i) x = ap (λ n. suc n) (set_many xs i x)

pub set_held : (s : Standing) (air : AirView) (at : ℕ) (fate : Fate) → IsHeld s air → length (slice_set s.fates at fate) ≡ length air.sent
set_held s air at fate held = set_many s.fates at fate ∙ held_many s air held

-- whether a frame was sent, by its number
pub sent_is : (k : ℕ) (s : Standing) (air : AirView) → is_frame k (world_in s air) ≡ not ((k == 0) || nat_lt (length s.fates) k)
sent_is k s air = ap (λ n. not ((k == 0) || nat_lt n k)) (flying_count s.fates air.sent)

-- the lowest that waits
pub lowest_is : (s : Standing) (air : AirView) → position waits s.fates ≡ position is_waiting (world_in s air).flights
lowest_is s air = lowest_waits s.fates air.sent

-- the frame at a place, whatever its fate
pub flies_at : (fates : List Fate) (frames : List AirFrame) (at : ℕ) → at < length fates → (x : Fate) × (f : AirFrame) × (slice_get fates at ≡ Some x) × (slice_get (flying fates frames) at ≡ Some (flight_in x f))
unfolding flying
flies_at [] frames at lt = absurd (omega (arith, lt))
flies_at (x ∷ fates) [] zero lt = (x, no_frame, refl, refl)
flies_at (x ∷ fates) [] (suc at) lt = flies_at fates [] at (omega (arith, lt))
flies_at (x ∷ fates) (f ∷ frames) zero lt = (x, f, refl, refl)
flies_at (x ∷ fates) (f ∷ frames) (suc at) lt = flies_at fates frames at (omega (arith, lt))
