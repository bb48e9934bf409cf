use Rattle.storage_model.proofs.Whole.{floors_kept, append_floors_kept}
use Rattle.storage_model.proofs.laws.floors_never_fall.Goals as goal

pub returns-clause-slots : goal.returns-clause-slots
returns-clause-slots c = floors_kept

pub returns-clause-appends : goal.returns-clause-appends
returns-clause-appends c = append_floors_kept
