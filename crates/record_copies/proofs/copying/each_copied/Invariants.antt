use Rattle.std.proofs.Common.{◌≡◌, ◌++◌, drop}
use Rattle.std.specs.Prelude.{map, Some}
use Rattle.std.specs.List.{AllByRecursion}
use Rattle.std.specs.FinMap.{entries, get}
use Rattle.node_model.specs.Copies.{kind_copied}
use Rattle.record_copies.proofs.copying.each_copied.Given as goal

-- with the kinds that are left, the copies are those of all
abbrev pub invariant-loop-id : goal.invariant-loop-id
invariant-loop-id l = record {
  so_far : l.copies ++ map (kind_copied l.config l.now) (drop l.id-index l.id-items) ≡ map (kind_copied l.config l.now) (entries l.kinds);
  there : AllByRecursion (λ e. get l.kinds e.0 ≡ Some e.1) (drop l.id-index l.id-items);
}
