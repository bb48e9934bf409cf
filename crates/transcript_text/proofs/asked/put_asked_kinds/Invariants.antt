use Rattle.std.proofs.Common.{◌≡◌, ◌++◌, take}
use Rattle.std.specs.List.{flat_map}
use Rattle.text_words.specs.Lines.{spaced_by}
use Rattle.transcript_text.specs.Transcript.{asked_kind}
use Rattle.transcript_text.proofs.asked.put_asked_kinds.Given as goal

abbrev pub invariant-loop-asked : goal.invariant-loop-asked
invariant-loop-asked l = l.out ≡ l.fn.out ++ flat_map (spaced_by (asked_kind l.nodes)) (take l.asked-index l.kinds)
