use Rattle.std.proofs.Common.{refl, ap, sym, ◌∙◌, length}
use Rattle.std.specs.Prelude.{Some}
use Rattle.record_state.specs.Light.{slots_sum}
use Rattle.ordered_tables.proofs.Finite.{found_there, chosen_true, chosen_false}
use Rattle.record_state.proofs.SlotMaps.{put_weight, taken, rest, sooner_min}
use Rattle.record_state.proofs.slots.Slots.exchange.Goals as goal

pub overflow_sub-self : goal.overflow_sub-self
overflow_sub-self c = taken _ _ _ _ (put_weight c.self.inside.table c.args.key.now c.args.slot.now (Some c.exchange.new.value) (length c.args.key.now) _ _ _ refl (found_there _ _ _ (sym c.if-not-exchange.false ∙ c.exchange.ensures.there) c.exchange.ensures.value) (c.weight-sum.ensures.value ∙ ap slots_sum (sym c.self.view_is)) c.slot_weight-weight.ensures c.slot_weight.ensures)

pub invariant_of-self : goal.invariant_of-self
invariant_of-self c = rw (chosen_false _ _ _ _ (sym c.if-not-exchange.true ∙ c.exchange.ensures.there) c.exchange.ensures.table) c.self.invariant

pub invariant_of-self-2 : goal.invariant_of-self-2
invariant_of-self-2 c = (
  rest _ _ _ _ (put_weight c.self.inside.table c.args.key.now c.args.slot.now (Some c.exchange.new.value) (length c.args.key.now) _ _ _ refl (found_there _ _ _ (sym c.if-not-exchange.false ∙ c.exchange.ensures.there) c.exchange.ensures.value) (c.weight-sum.ensures.value ∙ ap slots_sum (sym c.self.view_is)) c.slot_weight-weight.ensures c.slot_weight.ensures) ∙ ap slots_sum (sym (chosen_true _ _ _ _ (sym c.if-not-exchange.false ∙ c.exchange.ensures.there) c.exchange.ensures.table)),
  rw ((chosen_true _ _ _ _ (sym c.if-not-exchange.false ∙ c.exchange.ensures.there) c.exchange.ensures.table), c.min-self-inside.ensures) (sooner_min c.self.inside.soonest c.expiry_of-expiry.result c.self.inside.table c.args.key.now c.args.slot.now c.self.invariant.1 c.expiry_of-expiry.ensures),
)
