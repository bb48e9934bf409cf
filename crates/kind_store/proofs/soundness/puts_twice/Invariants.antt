use Rattle.std.proofs.Common.{◌≡◌, length}
use Rattle.std.specs.Prelude.{◌==◌}
use Rattle.data_models.specs.declared.fetched.Specifier.{Specifier}
use Rattle.storage_model.specs.declared.request.AskedKind.{AskedKind}
use Rattle.storage_model.specs.Requests.{has_twice, is_same_slot, placed}
use Rattle.kind_store.proofs.soundness.puts_twice.Given as goal

abbrev pub invariant-loop-first : goal.invariant-loop-first
invariant-loop-first l = has_twice is_same_slot (placed l.rest) ≡ has_twice is_same_slot (placed l.values)

abbrev pub decreases-loop-first : goal.decreases-loop-first
decreases-loop-first l = length l.rest
