use Rattle.std.proofs.Common.{◌≡◌, length}
use Rattle.node_model.specs.Courses.{without_own}
use Rattle.message_courses.proofs.destinations.without_own.Given as goal

abbrev pub invariant-own : goal.invariant-own
invariant-own l = without_own l.me.0 l.left ≡ without_own l.fn.me.0 l.fn.dest

abbrev pub decreases-own : goal.decreases-own
decreases-own l = length l.left
