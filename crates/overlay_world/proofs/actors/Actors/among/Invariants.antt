use Rattle.std.proofs.Common.{◌≡◌, length}
use Rattle.chord_tables.specs.Tables.{ids}
use Rattle.overlay_world.specs.Declarations.{with_declared, AreDeclared}
use Rattle.overlay_world.proofs.Folds.{folded}
use Rattle.overlay_world.proofs.actors.Actors.among.Given as goal

abbrev pub invariant-loop-last : goal.invariant-loop-last
invariant-loop-last l = record {
  declared : AreDeclared l.left;
  so_far : folded (with_declared l.config (ids l.peers)) l.left l.actors
      ≡ folded (with_declared l.config (ids l.peers)) l.names l.initial.actors;
}

abbrev pub decreases-loop-last : goal.decreases-loop-last
decreases-loop-last l = length l.left
