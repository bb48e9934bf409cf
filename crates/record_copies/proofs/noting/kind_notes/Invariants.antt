use Rattle.std.proofs.Common.{◌≡◌, ◌++◌, drop}
use Rattle.std.specs.Prelude.{map, Some}
use Rattle.std.specs.List.{AllByRecursion}
use Rattle.std.specs.FinMap.{entries, get}
use Rattle.node_model.specs.Copies.{kind_noted}
use Rattle.record_copies.proofs.noting.kind_notes.Given as goal

-- with the kinds that are left, the notes are those of all
abbrev pub invariant-loop-id : goal.invariant-loop-id
invariant-loop-id l = record {
  so_far : l.notes ++ map kind_noted (drop l.id-index l.id-items) ≡ map kind_noted (entries l.kinds);
  there : AllByRecursion (λ e. get l.kinds e.0 ≡ Some e.1) (drop l.id-index l.id-items);
}
