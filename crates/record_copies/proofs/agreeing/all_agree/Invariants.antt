use Rattle.std.proofs.Common.{◌≡◌, length}
use Rattle.node_model.specs.Copies as model
use Rattle.record_copies.proofs.agreeing.all_agree.Given as goal

-- whether those that are left agree is whether all do
abbrev pub invariant-notes : goal.invariant-notes
invariant-notes l = model.all_agree l.left l.beside ≡ model.all_agree l.notes l.kinds

abbrev pub decreases-notes : goal.decreases-notes
decreases-notes l = length l.left
