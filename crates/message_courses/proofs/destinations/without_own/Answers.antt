use Rattle.message_courses.proofs.Own.{left_is}
use Rattle.message_courses.proofs.destinations.without_own.Goals as goal

pub returns-then-not-is_node : goal.returns-then-not-is_node
returns-then-not-is_node c =
    left_is c.args.me.0 c.in-Some.first.now c.in-Some.rest.now c.own.left.now c.args.dest.now
    c.in-Some.ensures.cases (cc) c.own.invariant
