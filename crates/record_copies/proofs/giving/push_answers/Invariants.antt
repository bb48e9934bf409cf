use Rattle.std.proofs.Common.{◌≡◌, ◌++◌, length, map}
use Rattle.node_model.specs.Copies as model
use Rattle.record_copies.proofs.giving.push_answers.Given as goal

-- with the answers that are left, the answers are all
abbrev pub invariant-answers : goal.invariant-answers
invariant-answers l = record {
  same : (l.given.turn ≡ l.fn.given.turn) × (l.given.joined ≡ l.fn.given.joined) × (l.given.kinds ≡ l.fn.given.kinds);
  so_far : l.given.kept ++ map model.kept_said l.left ≡ map model.kept_said l.fn.answers;
}

abbrev pub decreases-answers : goal.decreases-answers
decreases-answers l = length l.left
