use Rattle.std.proofs.Common.{ap, ◌∙◌}
use Rattle.record_state.proofs.Lookups.{heavy}
use Rattle.record_state.proofs.KindMaps.{kinds_counted}
use Rattle.std.specs.Prelude.{nat_lt}
use Rattle.storage_model.specs.Records.{weight}
use Rattle.record_state.proofs.kinds.Kinds.is_too_heavy.Goals as goal

pub returns : goal.returns
returns c = ap (nat_lt 131072) c.weight.ensures.value ∙ heavy _ (weight c.args.self.now) (kinds_counted c.args.self.now)
