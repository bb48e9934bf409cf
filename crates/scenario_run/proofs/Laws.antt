-- The decisions of the first events of a scenario are those of one map.
use Rattle.std.proofs.Common.{List}
use Rattle.std.specs.FinMap.{empty}
use Rattle.node_messages.specs.Signed.{SignerWords}
use Rattle.storage_model.specs.Decisions.{Decision}
use Rattle.storage_model.proofs.Whole.{once}
use Rattle.run_model.specs.Worlds.{first_world}
use Rattle.run_model.specs.Runs.{Event, happenings, decisions_in}
use Rattle.overlay_laws.specs.Bytes.{AreAllBytes}
use Rattle.overlay_laws.proofs.Events.{run_legal}
use Rattle.overlay_laws.proofs.Start.{holds_first}
use Rattle.overlay_laws.proofs.Runs.{run_sound, run_in_time}
use Rattle.overlay_laws.proofs.Gives.{gives_last_puts, gives_at_decisions, holds_permitted}
use Rattle.scenario_text.specs.declared.scenario.Scenario.{Scenario}
use Rattle.scenario_text.specs.Scenarios.{IsScenario}
use Rattle.scenario_run.specs.Runs.{first_of, world_of, decisions_of}
use Rattle.scenario_run.specs.Laws.{AreOfOneMap}
use Rattle.scenario_run.proofs.Declared.{are_apart_in}

pub one_map : (signer : SignerWords) (s : Scenario) (es : List Event) → IsScenario s → AreAllBytes (world_of signer s es) → AreOfOneMap (decisions_of signer s es)
unfolding decisions_of world_of first_of
one_map signer s es is bytes =
    let apart = are_apart_in s is in
    let sound = run_sound signer s.config s.nodes es apart is.begun.config bytes in
    let in_time = run_in_time signer s.config s.nodes es in
    let ds : List Decision = decisions_in s.config (happenings signer (first_world s.config s.nodes) es) in
    record {
      legal = unfold decisions_in in unfold first_world in run_legal signer empty (first_world s.config s.nodes) es (holds_first s.config s.nodes apart);
      once = once sound.0 ds sound.1;
      in_time = in_time;
      gives = gives_last_puts sound.0 ds sound.1;
      gives_then = gives_at_decisions sound.0 ds sound.1 in_time;
      permitted = holds_permitted sound.0 ds sound.1;
    }
