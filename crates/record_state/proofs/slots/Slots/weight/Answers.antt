use Rattle.std.proofs.Common.{◌≤◌, ◌*◌, sym, subst}
use Rattle.record_state.specs.Light.{slots_sum}
use Rattle.record_state.proofs.SlotMaps.{slots_sum-le, sum_small}
use Rattle.record_state.proofs.slots.Slots.weight.Goals as goal

pub returns-clause-small : goal.returns-clause-small
returns-clause-small c =
    sum_small (slots_sum c.self.inside.table) c.len-count.result c.self.inside.weight
    (subst (λ n. slots_sum c.self.inside.table ≤ 131073 * n) (sym c.len-count.ensures.value) (slots_sum-le c.self.inside.table))
    c.len-count.ensures.small c.self.invariant.0
