use Rattle.std.proofs.Common.{◌≡◌, take}
use Rattle.std.specs.Prelude.{map}
use Rattle.scenario_moves.specs.Moves.{specifier_of}
use Rattle.scenario_moves.proofs.fetch.specifiers_of.Given as goal

abbrev pub invariant-loop-word : goal.invariant-loop-word
invariant-loop-word l = l.specifiers ≡ map specifier_of (take l.word-index l.words)
