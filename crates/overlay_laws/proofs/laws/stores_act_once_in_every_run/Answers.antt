use Rattle.storage_model.proofs.Whole.{once}
use Rattle.run_model.specs.Runs.{decisions_in, happenings}
use Rattle.run_model.specs.Worlds.{first_world}
use Rattle.overlay_laws.proofs.Runs.{run_sound}
use Rattle.overlay_laws.proofs.laws.stores_act_once_in_every_run.Goals as goal

pub returns : goal.returns
returns c words config names events apart is bytes =
    let sound = run_sound words config names events apart is bytes in
    once sound.0 (decisions_in config (happenings words (first_world config names) events)) sound.1
