use Rattle.std.proofs.Common.{◌≡◌, ◌++◌, drop}
use Rattle.std.specs.Prelude.{map}
use Rattle.due_list.specs.Entries.{due_until, told}
use Rattle.due_list.specs.Timers.{all_placed}
use Rattle.due_list.proofs.due.Due.until.Given as goal

-- those so far, and those of the rest that are due, are all that are due
abbrev pub invariant-loop-timer : goal.invariant-loop-timer
invariant-loop-timer l =
    l.found ++ map told (due_until l.time (all_placed (drop l.timer-index l.timer-items)))
    ≡ map told (due_until l.time l.self.entries)
