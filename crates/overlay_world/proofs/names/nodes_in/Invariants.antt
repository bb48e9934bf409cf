use Rattle.std.proofs.Common.{◌≡◌, length}
use Rattle.overlay_world.specs.Indexes.{with_node}
use Rattle.overlay_world.proofs.Folds.{folded}
use Rattle.overlay_world.proofs.names.nodes_in.Given as goal

abbrev pub invariant-loop-last : goal.invariant-loop-last
invariant-loop-last l =
    folded with_node l.left l.nodes ≡ folded with_node l.names l.initial.nodes

abbrev pub decreases-loop-last : goal.decreases-loop-last
decreases-loop-last l = length l.left
