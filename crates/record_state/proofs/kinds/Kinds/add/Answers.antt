use Rattle.std.proofs.Common.{refl, ap, sym, ◌∙◌, arith}
use Rattle.std.specs.Prelude.{None}
use Rattle.std.specs.FinMap as map
use Rattle.record_state.specs.Light.{kinds_sum}
use Rattle.record_state.proofs.SlotMaps.{all_of}
use Rattle.record_state.proofs.KindMaps.{ids-insert, put_kind_weight}
use Rattle.record_state.proofs.kinds.Kinds.add.Goals as goal

pub invariant_of-self-2 : goal.invariant_of-self-2
invariant_of-self-2 c = (
  all_of _ _ _ (put_kind_weight c.self.inside.table c.args.id c.args.kind None _ _ 0 (sym (ap (λ m. map.get m c.args.id) c.self.view_is ∙ c.requires)) (c.weight-sum.ensures.value ∙ ap kinds_sum (sym c.self.view_is)) c.weight-weight.ensures refl)
      ∙ ap kinds_sum (sym c.in_ok-insert.ensures.ok),
  rw c.in_ok-insert.ensures.ok (ids-insert c.self.inside.table c.args.id c.args.kind c.self.invariant.1 (omega (arith, c.ranges.id))),
)
