use Rattle.std.proofs.Common.{ap, sym, ◌∙◌, arith}
use Rattle.std.specs.Prelude.{Some}
use Rattle.record_state.specs.Light.{kinds_sum}
use Rattle.ordered_tables.proofs.Finite.{found_there, chosen_true, chosen_false}
use Rattle.record_state.proofs.SlotMaps.{taken, rest}
use Rattle.record_state.proofs.KindMaps.{ids-insert, put_kind_weight}
use Rattle.record_state.proofs.kinds.Kinds.exchange.Goals as goal

pub overflow_sub-self : goal.overflow_sub-self
overflow_sub-self c = taken _ _ _ _ (put_kind_weight c.self.inside.table c.args.id c.args.kind.now (Some c.exchange.new.value) _ _ _ (found_there _ _ _ (sym c.if-not-exchange.false ∙ c.exchange.ensures.there) c.exchange.ensures.value) (c.weight-sum.ensures.value ∙ ap kinds_sum (sym c.self.view_is)) c.weight-weight.ensures c.weight.ensures)

pub invariant_of-self : goal.invariant_of-self
invariant_of-self c = rw (chosen_false _ _ _ _ (sym c.if-not-exchange.true ∙ c.exchange.ensures.there) c.exchange.ensures.table) c.self.invariant

pub invariant_of-self-2 : goal.invariant_of-self-2
invariant_of-self-2 c = (
  rest _ _ _ _ (put_kind_weight c.self.inside.table c.args.id c.args.kind.now (Some c.exchange.new.value) _ _ _ (found_there _ _ _ (sym c.if-not-exchange.false ∙ c.exchange.ensures.there) c.exchange.ensures.value) (c.weight-sum.ensures.value ∙ ap kinds_sum (sym c.self.view_is)) c.weight-weight.ensures c.weight.ensures) ∙ ap kinds_sum (sym (chosen_true _ _ _ _ (sym c.if-not-exchange.false ∙ c.exchange.ensures.there) c.exchange.ensures.table)),
  rw (chosen_true _ _ _ _ (sym c.if-not-exchange.false ∙ c.exchange.ensures.there) c.exchange.ensures.table) (ids-insert c.self.inside.table c.args.id c.args.kind.now c.self.invariant.1 (omega (arith, c.ranges.id))),
)
