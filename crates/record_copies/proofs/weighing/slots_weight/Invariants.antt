use Rattle.std.proofs.Common.{◌≡◌, ◌+◌, ◌-◌, ◌^◌, ◌≤◌, min, length}
use Rattle.record_copies.specs.Said as said
use Rattle.record_copies.proofs.weighing.slots_weight.Given as goal

-- with the slots that are left, the sum is that of all
abbrev pub invariant-notes : goal.invariant-notes
invariant-notes l = record {
  all : min (l.sum + said.slots_weight l.left l.beside) (2 ^ 64 - 1) ≡ min (said.slots_weight l.notes l.values) (2 ^ 64 - 1);
  within : l.sum ≤ 2 ^ 64 - 1;
}

abbrev pub decreases-notes : goal.decreases-notes
decreases-notes l = length l.left
