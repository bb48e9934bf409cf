use Rattle.std.proofs.Common.{◌≡◌, ◌<◌, ◌^◌, length}
use Rattle.std.specs.List.{All}
use Rattle.chord_tables.specs.Tables.{number}
use Rattle.peer_routing.specs.Best.{pointed, farthest_with, nearest_with}
use Rattle.peer_routing.proofs.best.Best.look_at_fingers.Given as goal

abbrev pub invariant-loop-last : goal.invariant-loop-last
invariant-loop-last l = record {
  farthest : farthest_with l.me.0 l.k (pointed l.left) (number l.best.farthest)
      ≡ farthest_with l.me.0 l.k (pointed l.fingers) (number l.initial.best.farthest);
  nearest : nearest_with l.k (pointed l.left) (number l.best.nearest)
      ≡ nearest_with l.k (pointed l.fingers) (number l.initial.best.nearest);
  fit : All (λ x. x < 2 ^ 128) (pointed l.left) → All (λ x. x < 2 ^ 128) (pointed l.fingers);
}

abbrev pub decreases-loop-last : goal.decreases-loop-last
decreases-loop-last l = length l.left
