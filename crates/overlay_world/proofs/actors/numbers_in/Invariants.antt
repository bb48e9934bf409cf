use Rattle.std.proofs.Common.{◌≡◌, map, take}
use Rattle.overlay_world.proofs.actors.numbers_in.Given as goal

-- those so far
abbrev pub invariant-loop-row : goal.invariant-loop-row
invariant-loop-row l = l.numbers ≡ map (λ row. row.0) (take l.row-index l.rows)
