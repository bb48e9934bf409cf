use Rattle.std.proofs.Common.{◌≡◌, ◌++◌, take}
use Rattle.circular_buffer.specs.Buffer.{buffer}
use Rattle.record_state.proofs.kept_answers.append_copies.Given as goal

abbrev pub invariant-loop-answer : goal.invariant-loop-answer
invariant-loop-answer l =
    l.ring ≡ buffer (l.fn.ring.items ++ take l.answer-index l.answers) l.fn.ring.capacity
