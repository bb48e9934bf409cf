use Rattle.std.proofs.Common.{◌≡◌, ◌++◌, ◌≤◌, length}
use Rattle.std.specs.Prelude.{map}
use Rattle.storage_model.specs.declared.limits.TheConstants.{MAX_WEIGHT}
use Rattle.record_state.specs.Written.{slot_entry}
use Rattle.node_model.specs.Copies as model
use Rattle.record_copies.specs.Said as said
use Rattle.record_copies.proofs.slots.slots_said.Given as goal

-- with the slots that are left, the slots are all, and those aren't too heavy
abbrev pub invariant-notes : goal.invariant-notes
invariant-notes l = record {
  so_far : map slot_entry l.slots ++ model.slots_said l.left l.beside ≡ model.slots_said l.fn.notes l.fn.values;
  light : said.slots_weight l.left l.beside ≤ MAX_WEIGHT;
}

abbrev pub decreases-notes : goal.decreases-notes
decreases-notes l = length l.left
