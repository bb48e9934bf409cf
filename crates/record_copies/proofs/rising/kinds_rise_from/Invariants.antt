use Rattle.std.proofs.Common.{◌≡◌, length}
use Rattle.std.specs.Prelude.{nat_lt}
use Rattle.peer_note.specs.declared.kind_note.KindNote.{KindNote}
use Rattle.node_model.specs.Copies.{rise_from}
use Rattle.record_copies.proofs.rising.kinds_rise_from.Given as goal

-- whether those that are left rise is whether all do
abbrev pub invariant-notes : goal.invariant-notes
invariant-notes l = rise_from (λ (a b : KindNote). nat_lt a.kind b.kind) l.last l.left ≡ rise_from (λ (a b : KindNote). nat_lt a.kind b.kind) l.first l.others

abbrev pub decreases-notes : goal.decreases-notes
decreases-notes l = length l.left
