use Rattle.std.specs.FinMap.{empty}
use Rattle.run_model.specs.Worlds.{first_world}
use Rattle.overlay_laws.proofs.Events.{run_holds}
use Rattle.overlay_laws.proofs.Start.{holds_first}
use Rattle.overlay_laws.proofs.laws.each_id_has_one_owner.Goals as goal

pub returns : goal.returns
returns c words config names events n k p q id apart e d own also =
    (run_holds words empty (first_world config names) events (holds_first config names apart)).one n k p q e d id own also
