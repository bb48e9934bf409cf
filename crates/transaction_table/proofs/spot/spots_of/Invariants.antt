use Rattle.std.proofs.Common.{◌≡◌, map, take}
use Rattle.transaction_table.specs.Timed.{timer_at}
use Rattle.transaction_table.proofs.spot.spots_of.Given as goal

-- those so far
abbrev pub invariant-loop-due : goal.invariant-loop-due
invariant-loop-due l = l.spots ≡ map (λ x. (timer_at x).spot) (take l.due-index l.timers)
