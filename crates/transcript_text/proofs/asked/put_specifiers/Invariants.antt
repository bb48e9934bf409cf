use Rattle.std.proofs.Common.{◌≡◌, ◌++◌, take}
use Rattle.std.specs.List.{flat_map}
use Rattle.text_words.specs.Lines.{spaced_by}
use Rattle.transcript_text.specs.Transcript.{asked_specifier}
use Rattle.transcript_text.proofs.asked.put_specifiers.Given as goal

abbrev pub invariant-loop-specifier : goal.invariant-loop-specifier
invariant-loop-specifier l = l.out ≡ l.fn.out ++ flat_map (spaced_by asked_specifier) (take l.specifier-index l.specifiers)
