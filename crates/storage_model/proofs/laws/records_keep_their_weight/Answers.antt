use Rattle.storage_model.proofs.Counters.{weight_kept}
use Rattle.storage_model.proofs.laws.records_keep_their_weight.Goals as goal

pub returns : goal.returns
returns c = weight_kept
