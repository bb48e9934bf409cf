use Rattle.storage_model.proofs.Permitted.{permitted_all}
use Rattle.storage_model.proofs.laws.only_what_is_permitted_is_held.Goals as goal

pub returns : goal.returns
returns c = permitted_all
