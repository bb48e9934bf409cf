use Rattle.std.proofs.Common.{◌≡◌, length}
use Rattle.std.specs.Ordering.{nat_cmp, is_lt}
use Rattle.std.specs.Cmp.Lexicographic.{slice_cmp}
use Rattle.peer_note.specs.declared.kind_note.SlotNote.{SlotNote}
use Rattle.node_model.specs.Copies.{rise_from}
use Rattle.record_copies.proofs.rising.keys_rise_from.Given as goal

-- whether those that are left rise is whether all do
abbrev pub invariant-notes : goal.invariant-notes
invariant-notes l = rise_from (λ (a b : SlotNote). is_lt (slice_cmp nat_cmp a.key b.key)) l.last l.left ≡ rise_from (λ (a b : SlotNote). is_lt (slice_cmp nat_cmp a.key b.key)) l.first l.others

abbrev pub decreases-notes : goal.decreases-notes
decreases-notes l = length l.left
