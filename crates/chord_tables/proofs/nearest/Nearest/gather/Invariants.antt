use Rattle.std.proofs.Common.{◌≡◌, length}
use Rattle.chord_tables.specs.Sides.{gathered}
use Rattle.chord_tables.specs.Tables.{ids}
use Rattle.chord_tables.proofs.nearest.Nearest.gather.Given as goal

abbrev pub invariant-loop-last : goal.invariant-loop-last
invariant-loop-last l =
    gathered l.side l.me.0 (ids l.left) l.self ≡ gathered l.side l.me.0 (ids l.nodes) l.initial.self

abbrev pub decreases-loop-last : goal.decreases-loop-last
decreases-loop-last l = length l.left
