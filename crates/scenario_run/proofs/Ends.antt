-- How many frames a world has, how many bytes they have together, that they are bytes, and their lines.
use Rattle.std.proofs.Common.{◌≡◌, ℕ, Bool, List, [], ◌∷◌, ◌++◌, length, ap, ◌∙◌, arith}
use Rattle.reload_base.specs.declared.air.AirFrame.{AirFrame}
use Rattle.reload_base.specs.Outside.{AirView, HoldBytes, size_of}
use Rattle.std.specs.List.{AllByRecursion}
use Rattle.wire_core.specs.Spelling.{AreBytes}
use Rattle.run_model.specs.declared.flight.Fate.{Fate}
use Rattle.run_model.specs.Worlds.{World, Done, bytes_in}
use Rattle.run_model.specs.Stops.{frames_in}
use Rattle.frames_in_flight.specs.Flying.{flying}
use Rattle.frames_in_flight.proofs.Flying.{flying_count}
use Rattle.overlay_laws.specs.Bytes.{AreAllBytes}
use Rattle.overlay_world.specs.Standings.{Standing, world_in}
use Rattle.overlay_world.proofs.Stopping.{size_is}
use Rattle.run_text.specs.Lines.{happened_text}
use Rattle.scenario_run.specs.Texts.{traced_text, event_text}

-- the size of the air is that of its frames
pub sizes_are : (sent : List AirFrame) (w : World) → sent ≡ frames_in w → size_of sent ≡ bytes_in w.flights
unfolding frames_in
sizes_are sent w same = ap size_of same ∙ size_is w.flights

-- as many were sent as have a fate
pub counts_are : (s : Standing) (air : AirView) → length (world_in s air).flights ≡ length s.fates
counts_are s air = flying_count s.fates air.sent

-- where the frames of an air hold bytes, so do those of its world
flying_hold : (fates : List Fate) (frames : List AirFrame) → HoldBytes frames → AllByRecursion (λ f. AreBytes f.bytes) (flying fates frames)
unfolding flying
flying_hold [] frames all = tt
flying_hold (x ∷ fates) [] all = ((λ i. omega arith), flying_hold fates [] tt)
flying_hold (x ∷ fates) (f ∷ frames) all = (all.0, flying_hold fates frames all.1)

pub bytes_hold : (s : Standing) (air : AirView) → HoldBytes air.sent → AreAllBytes (world_in s air)
bytes_hold s air all = flying_hold s.fates air.sent all

-- the lines of an event: those of what happened, and behind them those of the frames of its air
pub piece_is : (traced : Bool) (w : World) (d : Done) (none told piece : List ℕ) (sent : ℕ) (frames : List AirFrame) → none ≡ [] → told ≡ none ++ happened_text d.world.names d.happened
    → piece ≡ told ++ traced_text traced sent frames → sent ≡ length w.flights → frames ≡ frames_in d.world → piece ≡ event_text traced w d
unfolding event_text
piece_is traced w d none told piece sent frames empty said flown count is =
    let lines = happened_text d.world.names d.happened in
    flown ∙ ap (λ l. l ++ traced_text traced sent frames) (said ∙ ap (λ l. l ++ lines) empty)
    ∙ ap (λ n. lines ++ traced_text traced n frames) count
    ∙ ap (λ (l : List AirFrame). lines ++ traced_text traced (length w.flights) l) is
