use Rattle.std.proofs.Common.{sym, arith}
use Rattle.record_state.proofs.SlotMaps.{sooner-empty, slots_sum-empty}
use Rattle.record_state.proofs.slots.Slots.new.Goals as goal

pub invariant_of-result : goal.invariant_of-result
invariant_of-result c = rw c.new.ensures (sym slots_sum-empty, sooner-empty 18446744073709551615 (omega arith))
