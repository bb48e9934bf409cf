use Rattle.storage_model.proofs.Counters.{counters_bounded}
use Rattle.storage_model.proofs.laws.decisions_bound_counters.Goals as goal

pub returns : goal.returns
returns c = counters_bounded
