use Rattle.std.proofs.Common.{sym, arith}
use Rattle.access_policy.specs.Policies.{numbered_match}
use Rattle.access_policy.proofs.SomeFromOne.{some_from_one-passes}
use Rattle.access_policy.proofs.is_numbered.Goals as goal

pub returns-then-has_number : goal.returns-then-has_number
returns-then-has_number c =
    sym (some_from_one-passes (numbered_match c.args.resource.0 c.args.node.0) c.args.multiple c.loop-i.i (omega arith) (sym c.if-has_number.ensures))
