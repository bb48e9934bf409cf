use Rattle.std.proofs.Common.{◌≡◌, ◌++◌}
use Rattle.std.specs.Prelude.{map, filter}
use Rattle.kind_store.specs.Written.{was_written, resource_of}
use Rattle.kind_store.proofs.shelf.Shelf.resources.Given as goal

abbrev pub invariant-loop-id : goal.invariant-loop-id
invariant-loop-id l = l.all ++ map resource_of (filter was_written l.id-iterator) ≡ map resource_of (filter was_written l.initial.id-iterator)
