-- A run: its worlds, what happens in it, and its decisions.
use Rattle.std.specs.Prelude.{ℕ, List, [], ◌∷◌, ◌++◌, Option, Some, None}
use Rattle.std.specs.List.{filter_map}
use Rattle.data_models.specs.declared.config.Config.{Config}
use Rattle.storage_model.specs.Decisions.{Decision}
use Rattle.node_messages.specs.Signed.{SignerWords}
use Rattle.node_model.specs.declared.notice.Notice.TheVariants as notices
use Rattle.run_model.specs.declared.happening.Happening.{Happening}
use Rattle.run_model.specs.declared.happening.Happening.TheVariants.{Tells}
use Rattle.run_model.specs.Worlds.{World}
use Rattle.run_model.specs.declared.moves.Move.{Move}
use Rattle.run_model.specs.Moves.{moved}

-- an event: the number of its line, and what it does
abbrev pub Event : Type 0
Event = ℕ × Move

-- the world after events
unfoldable pub world_after : SignerWords → World → List Event → World
world_after words w [] = w
world_after words w (e ∷ es) = world_after words (moved words e.0 e.1 w).world es

-- what happens in events, in order
unfoldable pub happenings : SignerWords → World → List Event → List Happening
happenings words w [] = []
happenings words w (e ∷ es) =
    (moved words e.0 e.1 w).happened ++ happenings words (moved words e.0 e.1 w).world es

-- the decision that is told under a configuration, where one is
abbrev pub decision_in : Config → Happening → Option Decision
decision_in config (Tells number (notices.Decision time resource origin id asked answer acted)) =
    Some (record {
      peer = number;
      time = time;
      config = config;
      resource = resource.0;
      origin = origin;
      id = id;
      asked = asked;
      answer = answer;
    })
decision_in config _ = None

-- the decisions in what happened, in order
unfoldable pub decisions_in : Config → List Happening → List Decision
decisions_in config happened = filter_map (decision_in config) happened
