use Rattle.std.proofs.Common.{arith}
use Rattle.record_copies.proofs.Weights.{no_kind, none_beside}
use Rattle.record_copies.proofs.weighing.kinds_weight.Goals as goal

pub returns-in_default-split_first : goal.returns-in_default-split_first
returns-in_default-split_first c = omega (arith, none_beside c.notes.left.now c.notes.beside.now c.in_default-split_first.ensures.cases, c.notes.invariant.all, c.notes.invariant.within)

pub returns : goal.returns
returns c = omega (arith, no_kind c.notes.left.now c.notes.beside.now c.in_default.ensures.cases, c.notes.invariant.all, c.notes.invariant.within)
