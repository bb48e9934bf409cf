use Rattle.std.proofs.Common.{◌≡◌, take}
use Rattle.std.specs.Prelude.{fold}
use Rattle.record_state.specs.Placing.{placed_on}
use Rattle.record_state.proofs.puts.put_each.Given as goal

abbrev pub invariant-loop-value : goal.invariant-loop-value
invariant-loop-value l = record {
  before : l.draft.before ≡ l.initial.draft.before;
  kinds : l.draft.kinds ≡ fold (placed_on l.now l.id l.counters) l.initial.draft.kinds (take l.value-index l.values);
}
