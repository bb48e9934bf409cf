use Rattle.std.specs.FinMap.{empty}
use Rattle.run_model.specs.Runs.{decisions_in}
use Rattle.run_model.specs.Worlds.{first_world}
use Rattle.overlay_laws.proofs.Events.{run_legal}
use Rattle.overlay_laws.proofs.Start.{holds_first}
use Rattle.overlay_laws.proofs.laws.decisions_are_those_of_one_map.Goals as goal

pub returns : goal.returns
unfolding decisions_in first_world
returns c words config names events apart = run_legal words empty (first_world config names) events (holds_first config names apart)
