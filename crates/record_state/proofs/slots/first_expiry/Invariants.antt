use Rattle.std.proofs.Common.{ℕ, ◌≤◌}
use Rattle.std.specs.List.{AllByRecursion}
use Rattle.record_state.specs.Light.{expiry_of, IsNoSooner}
use Rattle.record_state.proofs.slots.first_expiry.Given as goal

-- what is no later than the first so far, and than those that are left, is no later than all
abbrev pub invariant-loop-slot : goal.invariant-loop-slot
invariant-loop-slot l = (n : ℕ) → n ≤ l.first → AllByRecursion (λ e. n ≤ expiry_of e.1.held) l.slot-iterator → IsNoSooner n l.table
