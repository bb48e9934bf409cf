use Rattle.std.proofs.Common.{◌≡◌, ◌++◌, take}
use Rattle.std.specs.List.{flat_map}
use Rattle.text_words.specs.Lines.{spaced_by}
use Rattle.transcript_text.specs.Transcript.{stored_text}
use Rattle.transcript_text.proofs.value.put_all_stored.Given as goal

abbrev pub invariant-loop-stored : goal.invariant-loop-stored
invariant-loop-stored l = l.out ≡ l.fn.out ++ flat_map (spaced_by stored_text) (take l.stored-index l.values)
