-- What stops an event, in the words of runs.
use Rattle.std.proofs.Common.{◌≡◌, ℕ, zero, suc, ◌+◌, ◌-◌, List, [], ◌∷◌, ◌++◌, true, false, cond, length, map, take, refl, sym, ap, ◌∙◌, arith}
use Rattle.std.specs.Prelude.{Some, Result, IfErr, slice_get}
use Rattle.std.proofs.lemmas.List.{take_at, take-map}
use Rattle.std.proofs.lemmas.List.Sums.{sum_by-cons}
use Rattle.std.proofs.lemmas.Option.{same_Some}
use Rattle.std.proofs.lemmas.Result.{IfErr-weaker}
use Rattle.reload_base.specs.declared.air.AirFrame.{AirFrame}
use Rattle.reload_base.specs.Outside.{AirView, size_of}
use Rattle.node_messages.specs.Signed.{SignerWords}
use Rattle.run_model.specs.declared.flight.Flight.{Flight}
use Rattle.run_model.specs.declared.happening.Happening.TheVariants.{NoSuchFrame}
use Rattle.run_model.specs.declared.moves.Move.{Move}
use Rattle.run_model.specs.Worlds.{World, Done, quiet, refused, bytes_in}
use Rattle.run_model.specs.Moves.{is_frame, lost_at, lost, moved}
use Rattle.run_model.specs.Stops.{air_frame, frames_in, IsNodeFull, IsAirFull}
use Rattle.overlay_world.specs.declared.fault.StepFault.{StepFault}
use Rattle.overlay_world.specs.declared.fault.StepFault.TheVariants.{LinkFault, AirFull, NodeFull, NoMemory}
use Rattle.overlay_world.specs.Sendings.{IsFrontOf, IsFullFor, Halts}
use Rattle.overlay_world.specs.Stopped.{HasFront, Stops}
use Rattle.overlay_world.proofs.Airs.{front_of_all, halts_at_front}
use Rattle.overlay_world.proofs.Frames.{frames_lost}

-- ---- lists

there : {X : Type 0} (xs ys : List X) (y : X) → slice_get (xs ++ y ∷ ys) (length xs) ≡ Some y
there [] ys y = refl
there (x ∷ xs) ys y = there xs ys y

taken : {X : Type 0} (xs ys all : List X) → all ≡ xs ++ ys → xs ≡ take (length xs) all
taken xs ys all e = sym (take_at xs ys (length xs) refl) ∙ ap (λ l. take (length xs) l) (sym e)

flight_there : (fs : List Flight) (k : ℕ) (f : AirFrame) → slice_get (map air_frame fs) k ≡ Some f → (g : Flight) × (slice_get fs k ≡ Some g) × (air_frame g ≡ f)
flight_there [] k f e = absurd (cc)
flight_there (x ∷ fs) zero f e = (x, refl, same_Some (air_frame x) f e)
flight_there (x ∷ fs) (suc k) f e = flight_there fs k f e

pub size_is : (fs : List Flight) → size_of (map air_frame fs) ≡ bytes_in fs
unfolding size_of bytes_in
size_is [] = refl
size_is (f ∷ fs) =
    sum_by-cons (λ (x : AirFrame). length x.bytes) (air_frame f) (map air_frame fs)
    ∙ ap (λ n. length f.bytes + n) (size_is fs)
    ∙ sym (sum_by-cons (λ (x : Flight). length x.bytes) f fs)

-- ---- worlds

front_in : (air : AirView) (w : World) → IsFrontOf air (frames_in w) → HasFront air w
front_in air w h = (length air.sent, taken air.sent h.0 (frames_in w) h.1)

full_in : (air : AirView) (w : World) (b : ℕ) → IsFullFor air (frames_in w) b → HasFront air w × (size_of air.sent ≡ b) × IsAirFull w b
unfolding frames_in
full_in air w b h =
    let k = length air.sent in
    let front : air.sent ≡ take k (map air_frame w.flights) = taken air.sent (h.0 ∷ h.1) (frames_in w) h.2 in
    let frame = flight_there w.flights k h.0 (ap (λ l. slice_get l k) h.2 ∙ there air.sent h.1 h.0) in
    let bytes : bytes_in (take k w.flights) ≡ b =
    sym (size_is (take k w.flights)) ∙ ap size_of (sym (take-map air_frame k w.flights)) ∙ ap size_of (sym front) ∙ h.3 in
    let over = ap (λ (f : AirFrame). length f.bytes) frame.2 in
    ((k, front), h.3, (k, frame.0, frame.1, bytes, h.4, omega (arith, h.5, over)))

-- what stops the parts of an event stops it
pub stops_of : (words : SignerWords) (line : ℕ) (move : Move) (w : World) (old new : AirView) (e : StepFault)
    → Halts (frames_in (moved words line move w).world) (IsNodeFull words move w) old new e → Stops words line move w old new e
stops_of words line move w old new LinkFault h = (front_in new (moved words line move w).world h.0, h.1)
stops_of words line move w old new (AirFull b) h =
    let full = full_in new (moved words line move w).world b h.0 in
    (full.0, h.1, full.1, full.2)
stops_of words line move w old new (NodeFull n) h = (front_in new (moved words line move w).world h.0, h.1, h.2)
stops_of words line move w old new NoMemory h = (front_in new (moved words line move w).world h.0, h.1)

-- ---- an event that sends nothing

-- only memory can be missing
pub stills : {X : Type 0} (d : Done) (Full : ℕ → Type 0) (air : AirView) (r : Result X StepFault) → air.sent ≡ frames_in d.world → IfErr r (λ e. e ≡ NoMemory) → IfErr r (Halts (frames_in d.world) Full air air)
stills d Full air r has h =
    IfErr-weaker r (λ e. e ≡ NoMemory) (Halts (frames_in d.world) Full air air)
    (λ e is. halts_at_front (frames_in d.world) Full air air e is (front_of_all air (frames_in d.world) has) refl) h

-- a frame that is lost is in the air nevertheless
pub frames_after_loss : (line k : ℕ) (w : World) → frames_in (lost line k w).world ≡ frames_in w
unfolding lost
frames_after_loss line k w =
    elim (is_frame k w) as (λ b. frames_in (cond b (quiet (lost_at (k - 1) w)) (refused w (NoSuchFrame line))).world ≡ frames_in w) [
      | true ↦ frames_lost (k - 1) w
      | false ↦ refl
    ]
