use Rattle.std.proofs.Common.{◌≡◌, ◌++◌, take}
use Rattle.record_state.proofs.kept_answers.extend_by_copies.Given as goal

abbrev pub invariant-loop-answer : goal.invariant-loop-answer
invariant-loop-answer l = l.list ≡ l.fn.list ++ take l.answer-index l.answers
