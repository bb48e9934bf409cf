use Rattle.std.proofs.Common.{◌≡◌}
use Rattle.std.specs.Prelude.{fold}
use Rattle.std.specs.FinMap.{empty}
use Rattle.record_state.proofs.Listing.{with_listed}
use Rattle.record_state.proofs.written.slots_of.Given as goal

-- the slots so far were put
abbrev pub invariant-loop-slot : goal.invariant-loop-slot
invariant-loop-slot l = l.all ≡ fold with_listed empty l.yielded
