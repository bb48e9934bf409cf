use Rattle.std.proofs.Common.{ap, sym, ◌∙◌}
use Rattle.record_state.specs.Light.{slots_sum}
use Rattle.record_state.proofs.SlotMaps.{put_weight, taken, rest, sooner_min}
use Rattle.record_state.proofs.slots.Slots.add.Goals as goal

pub overflow_sub-self : goal.overflow_sub-self
overflow_sub-self c = taken _ _ _ _ (put_weight c.self.inside.table c.args.key c.args.slot c.in_ok-before.before c.len-len.result _ _ _ c.len-len.ensures c.in_ok-before.ensures.before (c.weight-sum.ensures.value ∙ ap slots_sum (sym c.self.view_is)) c.slot_weight-weight.ensures c.weight_before.ensures)

pub invariant_of-self-2 : goal.invariant_of-self-2
invariant_of-self-2 c = (
  rest _ _ _ _ (put_weight c.self.inside.table c.args.key c.args.slot c.in_ok-before.before c.len-len.result _ _ _ c.len-len.ensures c.in_ok-before.ensures.before (c.weight-sum.ensures.value ∙ ap slots_sum (sym c.self.view_is)) c.slot_weight-weight.ensures c.weight_before.ensures) ∙ ap slots_sum (sym c.in_ok-before.ensures.ok),
  rw (c.in_ok-before.ensures.ok, c.min-self-inside.ensures) (sooner_min c.self.inside.soonest c.expiry_of-expiry.result c.self.inside.table c.args.key c.args.slot c.self.invariant.1 c.expiry_of-expiry.ensures),
)
