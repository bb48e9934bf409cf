use Rattle.std.proofs.Common.{◌≡◌, ◌++◌}
use Rattle.std.specs.Prelude.{map}
use Rattle.std.specs.FinMap.{entries}
use Rattle.ordered_tables.specs.Seen.{shown}
use Rattle.node_model.specs.Copies.{slot_noted}
use Rattle.record_copies.proofs.noting.slot_notes.Given as goal

-- with the slots that are left, the notes are those of all
abbrev pub invariant-loop-key : goal.invariant-loop-key
invariant-loop-key l = l.notes ++ map slot_noted (shown (λ k. k.items) l.key-iterator) ≡ map slot_noted (entries l.slots)
