use Rattle.std.proofs.Common.{ap, sym, ◌∙◌}
use Rattle.std.specs.FinMap as map
use Rattle.record_state.specs.Light.{kinds_sum}
use Rattle.record_state.proofs.SlotMaps.{left, less}
use Rattle.record_state.proofs.KindMaps.{ids-remove, taken_kind_weight}
use Rattle.std.specs.Option.{option_map_or}
use Rattle.storage_model.specs.Records.{kind_weight}
use Rattle.record_state.specs.Light.{counted}
use Rattle.record_state.proofs.kinds.Kinds.remove.Goals as goal

pub overflow_sub-self : goal.overflow_sub-self
overflow_sub-self c = left _ _ _ (taken_kind_weight c.self.inside.table c.args.id _ _ c.self.invariant.0 (c.weight_of-weight.ensures ∙ ap (λ m. option_map_or (λ k. counted (kind_weight k)) (map.get m c.args.id) 0) (sym c.self.view_is)))

pub invariant_of-self : goal.invariant_of-self
invariant_of-self c = (
  less _ _ _ (taken_kind_weight c.self.inside.table c.args.id _ _ c.self.invariant.0 (c.weight_of-weight.ensures ∙ ap (λ m. option_map_or (λ k. counted (kind_weight k)) (map.get m c.args.id) 0) (sym c.self.view_is))) ∙ ap kinds_sum (sym c.remove.ensures.table),
  rw c.remove.ensures.table (ids-remove c.self.inside.table c.args.id c.self.invariant.1),
)
