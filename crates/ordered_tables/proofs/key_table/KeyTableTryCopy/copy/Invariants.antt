use Rattle.std.proofs.Common.{◌≡◌, ◌++◌}
use Rattle.std.specs.FinMap.{entries}
use Rattle.ordered_tables.specs.Seen.{shown}
use Rattle.ordered_tables.proofs.key_table.KeyTableTryCopy.copy.Given as goal

abbrev pub invariant-loop-key : goal.invariant-loop-key
invariant-loop-key g l = entries l.copy ++ shown (λ k. k.items) l.key-iterator ≡ shown (λ k. k.items) l.initial.key-iterator
