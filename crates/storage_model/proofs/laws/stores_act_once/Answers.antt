use Rattle.storage_model.proofs.Whole.{once}
use Rattle.storage_model.proofs.laws.stores_act_once.Goals as goal

pub returns : goal.returns
returns c = once
