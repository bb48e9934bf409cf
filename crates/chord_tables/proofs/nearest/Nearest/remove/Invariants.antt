use Rattle.std.proofs.Common.{◌≡◌, ◌≤◌, length, take}
use Rattle.chord_tables.specs.Neighbours.{without}
use Rattle.chord_tables.specs.Tables.{ids}
use Rattle.chord_tables.proofs.nearest.Nearest.remove.Given as goal

abbrev pub invariant-loop-other : goal.invariant-loop-other
invariant-loop-other l = record {
  kept : l.rest ≡ without l.node.0 (ids (take l.other-index l.other-items));
  few : length l.rest ≤ l.other-index;
}
