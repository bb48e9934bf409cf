use Rattle.std.proofs.Common.{◌≡◌, ◌++◌}
use Rattle.std.specs.Prelude.{map, fold, Some}
use Rattle.std.specs.List.{AllByRecursion}
use Rattle.std.specs.FinMap.{get}
use Rattle.storage_model.specs.Records.{map_values, swept_slot}
use Rattle.record_state.specs.Sweep.{emptied_at}
use Rattle.record_state.proofs.expired.due_keys.Given as goal

-- emptying those so far, and those that are left, empties all
abbrev pub invariant-loop-key : goal.invariant-loop-key
invariant-loop-key l = record {
  empties : fold (emptied_at l.now) l.slots (l.keys ++ map (λ e. e.0.items) l.key-iterator) ≡ map_values (swept_slot l.now) l.slots;
  there : AllByRecursion (λ e. get l.slots e.0.items ≡ Some e.1) l.key-iterator;
}
