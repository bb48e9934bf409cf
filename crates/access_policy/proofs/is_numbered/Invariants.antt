use Rattle.std.proofs.Common.{◌≡◌, false}
use Rattle.access_policy.specs.Policies.{numbered_match, some_from_one}
use Rattle.access_policy.proofs.is_numbered.Given as goal

abbrev pub invariant-loop-i : goal.invariant-loop-i
invariant-loop-i l = some_from_one (numbered_match l.resource.0 l.node.0) l.i ≡ false
