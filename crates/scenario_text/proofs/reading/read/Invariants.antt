use Rattle.std.proofs.Common.{◌≡◌, ◌+◌, ◌-◌, ◌≤◌, length}
use Rattle.scenario_text.specs.Reading.{reading_on, reading}
use Rattle.scenario_text.specs.Reads.{HasAtMost}
use Rattle.scenario_text.proofs.reading.read.Given as goal

abbrev pub invariant-lines : goal.invariant-lines
invariant-lines l = (reading_on l.so_far l.n l.rest ≡ reading l.text) × HasAtMost (l.n - 1) l.so_far × (1 ≤ l.n) × (l.n + length l.rest ≤ length l.text + 1)

abbrev pub decreases-lines : goal.decreases-lines
decreases-lines l = length l.rest
