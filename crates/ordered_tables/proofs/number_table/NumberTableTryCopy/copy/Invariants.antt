use Rattle.std.proofs.Common.{◌≡◌, ◌++◌}
use Rattle.std.specs.FinMap.{entries}
use Rattle.ordered_tables.specs.Seen.{shown}
use Rattle.ordered_tables.proofs.number_table.NumberTableTryCopy.copy.Given as goal

abbrev pub invariant-loop-key : goal.invariant-loop-key
invariant-loop-key g l = entries l.copy ++ shown (λ k. k) l.key-iterator ≡ shown (λ k. k) l.initial.key-iterator
