use Rattle.transcript_text.proofs.WordLaws.{counter_codec, decided_codec, some_number_codec}
use Rattle.transcript_text.proofs.laws.words_both_ways.Goals as goal

pub returns-clause-decided : goal.returns-clause-decided
returns-clause-decided c = decided_codec

pub returns-clause-counter : goal.returns-clause-counter
returns-clause-counter c = counter_codec

pub returns-clause-number : goal.returns-clause-number
returns-clause-number c = some_number_codec
