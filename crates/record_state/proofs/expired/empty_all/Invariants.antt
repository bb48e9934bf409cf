use Rattle.std.proofs.Common.{◌≡◌}
use Rattle.std.specs.Prelude.{fold}
use Rattle.record_state.specs.Sweep.{emptied_on}
use Rattle.record_state.proofs.expired.empty_all.Given as goal

abbrev pub invariant-loop-key : goal.invariant-loop-key
invariant-loop-key l = record {
  before : l.draft.before ≡ l.initial.draft.before;
  kinds : l.draft.kinds ≡ fold (emptied_on l.now l.id) l.initial.draft.kinds l.yielded;
}
