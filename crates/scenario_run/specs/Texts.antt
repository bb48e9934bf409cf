-- The transcript of a scenario (this profile).
use Rattle.std.specs.Prelude.{ℕ, Bool, List, [], ◌∷◌, ◌++◌, length, if◌then◌else◌}
use Rattle.reload_base.specs.declared.air.AirFrame.{AirFrame}
use Rattle.text_words.specs.Lines.{ended}
use Rattle.node_messages.specs.Signed.{SignerWords}
use Rattle.run_model.specs.Worlds.{World, Done, is_settled, bytes_in}
use Rattle.run_model.specs.Moves.{moved}
use Rattle.run_model.specs.Stops.{frames_in}
use Rattle.run_model.specs.Runs.{Event}
use Rattle.scenario_text.specs.declared.scenario.Scenario.{Scenario}
use Rattle.scenario_text.specs.Echo.{echo}
use Rattle.run_text.specs.Lines.{happened_text, frames_text, end_line}
use Rattle.scenario_run.specs.Runs.{events_of, first_of, world_of}

-- the lines of the frames that were sent behind the first ones, if frames are traced
abbrev pub traced_text : Bool → ℕ → List AirFrame → List ℕ
traced_text traced from frames = if traced then frames_text from frames else []

-- the lines of an event: what happened, and then the frames that it sent, if frames are traced
unfoldable pub event_text : Bool → World → Done → List ℕ
event_text traced before done =
    happened_text done.world.names done.happened
    ++ traced_text traced (length before.flights) (frames_in done.world)

-- the lines of events from a world on
unfoldable pub lines_from : SignerWords → Bool → World → List Event → List ℕ
lines_from signer traced w [] = []
lines_from signer traced w (e ∷ es) =
    event_text traced w (moved signer e.0 e.1 w)
    ++ lines_from signer traced (moved signer e.0 e.1 w).world es

-- the declarations, and the lines of some events
unfoldable pub text_of : SignerWords → Bool → Scenario → List Event → List ℕ
text_of signer traced s events = echo s ++ lines_from signer traced (first_of s) events

-- the last line: how many frames were sent, how many bytes they have together, the clock, and
-- whether the world is settled
unfoldable pub end_text : World → List ℕ
end_text w = ended (end_line (length w.flights) (bytes_in w.flights) w.clock (is_settled w))

-- the transcript of a scenario, with its frames if they are traced
unfoldable pub transcript : SignerWords → Bool → Scenario → List ℕ
transcript signer traced s =
    text_of signer traced s (events_of s) ++ end_text (world_of signer s (events_of s))
