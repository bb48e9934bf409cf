-- What holds of the decisions of every run.
use Rattle.std.proofs.Common.{ℕ, List}
use Rattle.std.specs.Prelude.{unwrap_or}
use Rattle.std.specs.FinMap.{empty}
use Rattle.data_models.specs.declared.config.Config.{Config}
use Rattle.data_models.specs.declared.config.DataModel.{DataModel}
use Rattle.data_models.specs.declared.config.DataModel.TheVariants.{Single}
use Rattle.data_models.specs.Configs.{IsConfig, model_in}
use Rattle.request_words.specs.declared.node.DeclaredNode.{DeclaredNode}
use Rattle.node_messages.specs.Signed.{SignerWords}
use Rattle.storage_model.specs.Laws.{AreSound}
use Rattle.storage_model.proofs.Models.{models_agree}
use Rattle.run_model.specs.Worlds.{AreApart, first_world}
use Rattle.run_model.specs.Runs.{Event, world_after, happenings, decisions_in}
use Rattle.overlay_laws.specs.Bytes.{AreAllBytes}
use Rattle.overlay_laws.specs.Gives.{InTime}
use Rattle.overlay_laws.proofs.Start.{holds_first}
use Rattle.overlay_laws.proofs.Saneness.{sane_run}
use Rattle.overlay_laws.proofs.Times.{run_timed}

-- all that is decided makes sense under the models of the configuration's kinds
pub run_sound : (words : SignerWords) (config : Config) (names : List DeclaredNode) (events : List Event) → AreApart names → IsConfig config → AreAllBytes (world_after words (first_world config names) events)
    → (models : ℕ → DataModel) × AreSound models (decisions_in config (happenings words (first_world config names) events))
unfolding decisions_in first_world
run_sound words config names events apart is bytes = (
  λ (id : ℕ). unwrap_or (model_in config id) Single,
  (sane_run words (λ (id : ℕ). unwrap_or (model_in config id) Single) empty (first_world config names) events (holds_first config names apart)
      (record { limits = is; kinds = models_agree config is })).sound bytes,
)

pub run_in_time : (words : SignerWords) (config : Config) (names : List DeclaredNode) (events : List Event) → InTime (decisions_in config (happenings words (first_world config names) events))
unfolding decisions_in
run_in_time words config names events = (run_timed words config (first_world config names) events).in_time
