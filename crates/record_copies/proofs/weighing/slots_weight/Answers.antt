use Rattle.std.proofs.Common.{arith}
use Rattle.record_copies.proofs.Weights.{no_slot}
use Rattle.record_copies.proofs.weighing.slots_weight.Goals as goal

pub returns : goal.returns
returns c = omega (arith, no_slot c.notes.left.now c.notes.beside.now c.in_default.ensures.cases, c.notes.invariant.all, c.notes.invariant.within)
