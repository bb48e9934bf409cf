use Rattle.std.proofs.Common.{◌≡◌, ◌++◌, take}
use Rattle.std.specs.List.{flat_map}
use Rattle.text_words.specs.Lines.{spaced_by}
use Rattle.transcript_text.specs.Transcript.{found_kind}
use Rattle.transcript_text.proofs.answer.put_all_kinds.Given as goal

abbrev pub invariant-loop-kind : goal.invariant-loop-kind
invariant-loop-kind l = l.out ≡ l.fn.out ++ flat_map (spaced_by found_kind) (take l.kind-index l.kinds)
