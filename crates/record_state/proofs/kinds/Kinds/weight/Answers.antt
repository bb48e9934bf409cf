use Rattle.std.proofs.Common.{◌≤◌, ◌*◌, sym, subst}
use Rattle.record_state.specs.Light.{kinds_sum}
use Rattle.record_state.proofs.SlotMaps.{sum_small}
use Rattle.record_state.proofs.KindMaps.{kinds_sum-le}
use Rattle.record_state.proofs.kinds.Kinds.weight.Goals as goal

pub returns-clause-small : goal.returns-clause-small
returns-clause-small c =
    sum_small (kinds_sum c.self.inside.table) c.len-count.result c.self.inside.weight
    (subst (λ n. kinds_sum c.self.inside.table ≤ 131073 * n) (sym c.len-count.ensures.value) (kinds_sum-le c.self.inside.table))
    c.len-count.ensures.small c.self.invariant.0
