use Rattle.std.proofs.Common.{◌≡◌, ◌++◌, drop}
use Rattle.std.specs.Prelude.{map, Some}
use Rattle.std.specs.List.{AllByRecursion}
use Rattle.std.specs.FinMap.{get}
use Rattle.record_state.specs.Written.{kind_record, kind_records}
use Rattle.record_state.proofs.kinds.Kinds.records.Given as goal

-- with the kinds that are left, the records are those of all
abbrev pub invariant-loop-id : goal.invariant-loop-id
invariant-loop-id l = record {
  so_far : l.all ++ map (λ e. kind_record e.0 e.1) (drop l.id-index l.id-items) ≡ kind_records l.self;
  there : AllByRecursion (λ e. get l.self e.0 ≡ Some e.1) (drop l.id-index l.id-items);
}
