use Rattle.std.proofs.Common.{◌≡◌, ◌++◌, drop}
use Rattle.std.specs.Prelude.{map, fold, Some}
use Rattle.std.specs.List.{AllByRecursion}
use Rattle.std.specs.FinMap.{get}
use Rattle.storage_model.specs.Records.{all_swept}
use Rattle.record_state.specs.Sweep.{swept_on}
use Rattle.record_state.proofs.expired.due_kinds.Given as goal

-- sweeping those so far, and those that are left, sweeps all
abbrev pub invariant-loop-id : goal.invariant-loop-id
invariant-loop-id l = record {
  sweeps : fold (swept_on l.now) l.kinds (l.ids ++ map (λ e. e.0) (drop l.id-index l.id-items)) ≡ all_swept l.now l.kinds;
  there : AllByRecursion (λ e. get l.kinds e.0 ≡ Some e.1) (drop l.id-index l.id-items);
}
