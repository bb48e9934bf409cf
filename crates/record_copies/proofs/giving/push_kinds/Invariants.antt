use Rattle.std.proofs.Common.{◌≡◌, ◌++◌, length}
use Rattle.std.specs.List.{AllByRecursion}
use Rattle.std.specs.FinMap.{entries}
use Rattle.node_model.specs.Copies as model
use Rattle.record_copies.specs.Said.{IsPlaced}
use Rattle.record_copies.proofs.giving.push_kinds.Given as goal

-- with the kinds that are left, the kinds are all
abbrev pub invariant-notes : goal.invariant-notes
invariant-notes l = record {
  same : (l.given.turn ≡ l.fn.given.turn) × (l.given.joined ≡ l.fn.given.joined) × (l.given.kept ≡ l.fn.given.kept);
  so_far : entries l.given.kinds ++ model.kinds_said l.left l.beside ≡ model.kinds_said l.fn.notes l.fn.kinds;
  each : AllByRecursion IsPlaced l.left;
}

abbrev pub decreases-notes : goal.decreases-notes
decreases-notes l = length l.left
