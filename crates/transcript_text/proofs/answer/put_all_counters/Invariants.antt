use Rattle.std.proofs.Common.{◌≡◌, ◌++◌, take}
use Rattle.std.specs.List.{flat_map}
use Rattle.text_words.specs.Lines.{spaced_by}
use Rattle.transcript_text.specs.Words.{counter_text}
use Rattle.transcript_text.proofs.answer.put_all_counters.Given as goal

abbrev pub invariant-loop-counter : goal.invariant-loop-counter
invariant-loop-counter l = l.out ≡ l.fn.out ++ flat_map (spaced_by counter_text) (take l.counter-index l.counters)
