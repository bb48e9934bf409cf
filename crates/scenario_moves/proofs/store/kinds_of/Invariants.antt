use Rattle.std.proofs.Common.{◌≡◌, take}
use Rattle.std.specs.Prelude.{map}
use Rattle.scenario_moves.specs.Moves.{kind_of}
use Rattle.scenario_moves.proofs.store.kinds_of.Given as goal

abbrev pub invariant-loop-group : goal.invariant-loop-group
invariant-loop-group l = l.kinds ≡ map kind_of (take l.group-index l.groups)
