use Rattle.std.proofs.Common.{◌≡◌, length}
use Rattle.node_model.specs.Copies as model
use Rattle.record_copies.proofs.agreeing.are_values_of.Given as goal

-- whether the values that are left are those of the slots that are left is whether all are
abbrev pub invariant-notes : goal.invariant-notes
invariant-notes l = model.are_values_of l.left l.beside ≡ model.are_values_of l.notes l.values

abbrev pub decreases-notes : goal.decreases-notes
decreases-notes l = length l.left
