use Rattle.std.proofs.Common.{sym}
use Rattle.record_state.proofs.KindMaps.{ids-empty, kinds_sum-empty}
use Rattle.record_state.proofs.kinds.Kinds.new.Goals as goal

pub invariant_of-result : goal.invariant_of-result
invariant_of-result c = rw c.new.ensures (sym kinds_sum-empty, ids-empty)
