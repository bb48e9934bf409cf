use Rattle.std.proofs.Common.{◌≡◌, take}
use Rattle.std.specs.Prelude.{map}
use Rattle.scenario_moves.specs.Moves.{stored_of}
use Rattle.scenario_moves.proofs.stored.values_of.Given as goal

abbrev pub invariant-loop-word : goal.invariant-loop-word
invariant-loop-word l = l.values ≡ map stored_of (take l.word-index l.words)
