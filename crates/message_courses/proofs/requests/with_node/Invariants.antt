use Rattle.std.proofs.Common.{◌≡◌, take}
use Rattle.message_courses.proofs.requests.with_node.Given as goal

abbrev pub invariant-loop-entry : goal.invariant-loop-entry
invariant-loop-entry l = l.via ≡ take l.entry-index l.entry-items
