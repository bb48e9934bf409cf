-- Frames as they fly: each with its fate.
use Rattle.std.proofs.Common.{◌≡◌, ℕ, zero, suc, ◌+◌, ◌<◌, cond, not, List, [], ◌∷◌, ◌++◌, length, map, refl, sym, ap, ◌∙◌, arith}
use Rattle.std.specs.Prelude.{Some, None, nat_lt, position, slice_get, slice_set}
use Rattle.std.specs.List.{position_or_len}
use Rattle.reload_base.specs.declared.air.AirFrame.{AirFrame}
use Rattle.run_model.specs.declared.flight.Flight.{Flight}
use Rattle.run_model.specs.declared.flight.Fate.{Fate}
use Rattle.run_model.specs.Moves.{is_waiting}
use Rattle.run_model.specs.Stops.{air_frame}
use Rattle.frames_in_flight.specs.Flying.{waits, flight_in, no_frame, flying}

-- as many fly as have a fate
pub flying_count : (fates : List Fate) (frames : List AirFrame) → length (flying fates frames) ≡ length fates
unfolding flying
flying_count [] frames = refl
flying_count (x ∷ fates) [] = ap (λ n. suc n) (flying_count fates [])
flying_count (x ∷ fates) (f ∷ frames) = ap (λ n. suc n) (flying_count fates frames)

length_map : (fs : List Flight) → length (map air_frame fs) ≡ length fs
length_map [] = refl
length_map (f ∷ fs) = ap (λ n. suc n) (length_map fs)

-- where the frames are all those that fly, each has a fate
pub as_many : (fates : List Fate) (frames : List AirFrame) → frames ≡ map air_frame (flying fates frames) → length fates ≡ length frames
as_many fates frames e = sym (ap (λ (l : List AirFrame). length l) e ∙ length_map (flying fates frames) ∙ flying_count fates frames)

-- where each has a fate, they are all those that fly
pub all_fly : (fates : List Fate) (frames : List AirFrame) → length fates ≡ length frames → map air_frame (flying fates frames) ≡ frames
unfolding flying
all_fly [] [] e = refl
all_fly [] (f ∷ frames) e = absurd (omega (arith, e))
all_fly (x ∷ fates) [] e = absurd (omega (arith, e))
all_fly (x ∷ fates) (f ∷ frames) e = ap (λ l. f ∷ l) (all_fly fates frames (omega (arith, e)))

-- the fate of a frame at a place, and the frame as it flies
pub at_place : (fates : List Fate) (frames : List AirFrame) (at : ℕ) (f : AirFrame) → at < length fates → slice_get frames at ≡ Some f
    → (fate : Fate) × (slice_get fates at ≡ Some fate) × (slice_get (flying fates frames) at ≡ Some (flight_in fate f))
unfolding flying
at_place [] frames at f lt e = absurd (omega (arith, lt))
at_place (x ∷ fates) [] at f lt e = absurd (cc)
at_place (x ∷ fates) (g ∷ frames) zero f lt e = let same : g ≡ f = cc in (x, refl, ap (λ (h : AirFrame). Some (flight_in x h)) same)
at_place (x ∷ fates) (g ∷ frames) (suc at) f lt e = at_place fates frames at f (omega (arith, lt)) e

-- another fate
pub with_another : (fates : List Fate) (frames : List AirFrame) (at : ℕ) (f : Flight) (fate : Fate) → slice_get (flying fates frames) at ≡ Some f
    → flying (slice_set fates at fate) frames ≡ slice_set (flying fates frames) at (record f { fate = fate })
unfolding flying
with_another [] frames at f fate e = refl
with_another (x ∷ fates) [] zero f fate e = let same : flight_in x no_frame ≡ f = cc in ap (λ (g : Flight). let h : Flight = record g { fate = fate } in h ∷ flying fates []) same
with_another (x ∷ fates) [] (suc at) f fate e = ap (λ l. flight_in x no_frame ∷ l) (with_another fates [] at f fate e)
with_another (x ∷ fates) (g ∷ frames) zero f fate e = let same : flight_in x g ≡ f = cc in ap (λ (y : Flight). let h : Flight = record y { fate = fate } in h ∷ flying fates frames) same
with_another (x ∷ fates) (g ∷ frames) (suc at) f fate e = ap (λ l. flight_in x g ∷ l) (with_another fates frames at f fate e)

-- more behind them
pub with_more : (fates more : List Fate) (frames others : List AirFrame) → length fates ≡ length frames → flying (fates ++ more) (frames ++ others) ≡ flying fates frames ++ flying more others
unfolding flying
with_more [] more [] others e = refl
with_more [] more (f ∷ frames) others e = absurd (omega (arith, e))
with_more (x ∷ fates) more [] others e = absurd (omega (arith, e))
with_more (x ∷ fates) more (f ∷ frames) others e = ap (λ l. flight_in x f ∷ l) (with_more fates more frames others (omega (arith, e)))

-- the lowest that waits

first_of : (fates : List Fate) (frames : List AirFrame) → position_or_len is_waiting (flying fates frames) ≡ position_or_len waits fates
unfolding flying
first_of [] frames = refl
first_of (x ∷ fates) [] = ap (λ n. cond (not (waits x)) (1 + n) 0) (first_of fates [])
first_of (x ∷ fates) (f ∷ frames) = ap (λ n. cond (not (waits x)) (1 + n) 0) (first_of fates frames)

pub lowest_waits : (fates : List Fate) (frames : List AirFrame) → position waits fates ≡ position is_waiting (flying fates frames)
lowest_waits fates frames =
    sym (ap (λ n. cond (nat_lt n (length (flying fates frames))) (Some n) None) (first_of fates frames)
    ∙ ap (λ n. cond (nat_lt (position_or_len waits fates) n) (Some (position_or_len waits fates)) None) (flying_count fates frames))
