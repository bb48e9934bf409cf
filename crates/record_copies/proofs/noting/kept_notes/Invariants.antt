use Rattle.std.proofs.Common.{◌≡◌, map}
use Rattle.node_model.specs.Copies.{kept_noted}
use Rattle.record_copies.proofs.noting.kept_notes.Given as goal

-- those so far are told
abbrev pub invariant-loop-answer : goal.invariant-loop-answer
invariant-loop-answer l = l.notes ≡ map kept_noted l.yielded
