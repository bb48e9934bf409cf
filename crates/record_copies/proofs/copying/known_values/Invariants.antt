use Rattle.std.proofs.Common.{◌≡◌, ◌++◌}
use Rattle.std.specs.List.{filter_map}
use Rattle.std.specs.FinMap.{entries}
use Rattle.ordered_tables.specs.Seen.{shown}
use Rattle.node_model.specs.Copies.{value_copied}
use Rattle.record_copies.proofs.copying.known_values.Given as goal

-- with the slots that are left, the values are those of all
abbrev pub invariant-loop-key : goal.invariant-loop-key
invariant-loop-key l = l.values ++ filter_map (value_copied l.now l.defined) (shown (λ k. k.items) l.key-iterator) ≡ filter_map (value_copied l.now l.defined) (entries l.slots)
