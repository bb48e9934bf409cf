use Rattle.std.proofs.Common.{ap, ◌∙◌}
use Rattle.record_state.specs.Light.{slots_sum}
use Rattle.record_state.proofs.KindMaps.{turned, kind_counted}
use Rattle.storage_model.specs.Records.{kind_weight}
use Rattle.record_state.specs.Light.{counted}
use Rattle.record_state.specs.contracts.kind.KindState.{the_view}
use Rattle.record_state.proofs.kind.KindState.weight.Goals as goal

pub returns : goal.returns
returns c = turned c.min.result c.weight.result (slots_sum c.self.inside.slots) c.min.ensures c.weight.ensures.value ∙ kind_counted (the_view c.self.inside) ∙ ap (λ k. counted (kind_weight k)) c.self.view_is
