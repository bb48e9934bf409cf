use Rattle.std.specs.FinMap.{empty}
use Rattle.run_model.specs.Runs.{decisions_in}
use Rattle.run_model.specs.Worlds.{first_world}
use Rattle.overlay_laws.proofs.Events.{run_holds}
use Rattle.overlay_laws.proofs.Start.{holds_first}
use Rattle.overlay_laws.proofs.laws.owners_have_the_record_of_the_one_map.Goals as goal

pub returns : goal.returns
unfolding decisions_in first_world
returns c words config names events n p resource apart e own =
    (run_holds words empty (first_world config names) events (holds_first config names apart)).same n p e resource own
