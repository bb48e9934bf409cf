use Rattle.std.proofs.Common.{◌≡◌, ◌∷◌, map}
use Rattle.forwarding_header.specs.declared.destination.Destination.TheVariants.{Node}
use Rattle.forwarding_header.proofs.way_back.reversed.Given as goal

abbrev pub invariant-loop-entry : goal.invariant-loop-entry
invariant-loop-entry l = l.back ≡ Node l.fn.first ∷ map (λ entry. entry.now) l.yielded
