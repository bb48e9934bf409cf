use Rattle.std.proofs.Common.{refl, ap, sym, ◌∙◌, length}
use Rattle.std.specs.FinMap as map
use Rattle.record_state.specs.Light.{slots_sum}
use Rattle.record_state.specs.Undo.{slot_restored}
use Rattle.record_state.proofs.SlotMaps.{taken_weight, left, less, sooner-remove}
use Rattle.record_state.proofs.slots.Slots.remove.Goals as goal

pub overflow_sub-self : goal.overflow_sub-self
overflow_sub-self c = left _ _ _ (taken_weight c.self.inside.table c.args.key.now c.remove-before.result (length c.args.key.now) _ _ refl c.remove-before.ensures.value c.self.invariant.0 c.weight_before.ensures)

pub invariant_of-self : goal.invariant_of-self
invariant_of-self c = (less _ _ _ (taken_weight c.self.inside.table c.args.key.now c.remove-before.result (length c.args.key.now) _ _ refl c.remove-before.ensures.value c.self.invariant.0 c.weight_before.ensures) ∙ ap slots_sum (sym c.remove-before.ensures.table), rw c.remove-before.ensures.table (sooner-remove c.self.inside.soonest c.self.inside.table c.args.key.now c.self.invariant.1))

pub returns : goal.returns
unfolding slot_restored
returns c = c.remove-before.ensures.table ∙ ap (λ m. map.remove m c.args.key.now) c.self.view_is
