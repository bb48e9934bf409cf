use Rattle.storage_model.proofs.Whole.{repeat_effect, repeat_same}
use Rattle.storage_model.proofs.laws.repeats_get_their_answer.Goals as goal

pub returns-clause-effect : goal.returns-clause-effect
returns-clause-effect c = repeat_effect

pub returns-clause-same : goal.returns-clause-same
returns-clause-same c = repeat_same
