use Rattle.storage_model.proofs.Lasts.{last_given}
use Rattle.storage_model.proofs.laws.fetches_give_the_last_put.Goals as goal

pub returns : goal.returns
returns c = last_given
