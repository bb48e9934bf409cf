use Rattle.std.proofs.Common.{◌≡◌, take}
use Rattle.node_model.specs.Ways.{copied}
use Rattle.message_courses.proofs.options.copied.Given as goal

abbrev pub invariant-loop-o : goal.invariant-loop-o
invariant-loop-o l = l.copied ≡ copied (take l.o-index l.o-items)
