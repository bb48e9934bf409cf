use Rattle.std.proofs.Common.{◌≡◌, ℕ, List, ◌++◌, length}
use Rattle.reload_base.specs.Outside.{Adds}
use Rattle.reload_base.proofs.writing.write_all.Given as goal

-- what stands before the rest was written
abbrev pub invariant-pieces : goal.invariant-pieces
invariant-pieces g l = (front : List ℕ) × (front ++ l.rest ≡ l.piece) × Adds (g.K.Sink.view l.fn.sink) (g.K.Sink.view l.sink) front

abbrev pub decreases-pieces : goal.decreases-pieces
decreases-pieces g l = length l.rest
