use Rattle.std.proofs.Common.{◌≡◌, take}
use Rattle.std.specs.Prelude.{fold}
use Rattle.record_state.specs.Sweep.{swept_on}
use Rattle.record_state.proofs.expired.sweep_all.Given as goal

abbrev pub invariant-loop-id : goal.invariant-loop-id
invariant-loop-id l = record {
  before : l.draft.before ≡ l.initial.draft.before;
  kinds : l.draft.kinds ≡ fold (swept_on l.now) l.initial.draft.kinds (take l.id-index l.ids);
}
