use Rattle.std.proofs.Common.{◌≡◌, length}
use Rattle.overlay_world.specs.Indexes.{with_number}
use Rattle.overlay_world.proofs.Folds.{folded}
use Rattle.overlay_world.proofs.names.numbers_in.Given as goal

abbrev pub invariant-loop-last : goal.invariant-loop-last
invariant-loop-last l =
    folded with_number l.left l.numbers ≡ folded with_number l.names l.initial.numbers

abbrev pub decreases-loop-last : goal.decreases-loop-last
decreases-loop-last l = length l.left
