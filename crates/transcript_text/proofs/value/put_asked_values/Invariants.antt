use Rattle.std.proofs.Common.{◌≡◌, ◌++◌, take}
use Rattle.std.specs.List.{flat_map}
use Rattle.text_words.specs.Lines.{spaced_by}
use Rattle.transcript_text.specs.Transcript.{asked_value}
use Rattle.transcript_text.proofs.value.put_asked_values.Given as goal

abbrev pub invariant-loop-value : goal.invariant-loop-value
invariant-loop-value l = l.out ≡ l.fn.out ++ flat_map (spaced_by (asked_value l.nodes)) (take l.value-index l.values)
