use Rattle.text_words.proofs.CodecLaws.{Spells-ok}
use Rattle.request_words.specs.Values.{value_of, value_text, IsValue}
use Rattle.request_words.proofs.ValueLaws.{value_codec}
use Rattle.request_words.proofs.value.value_of.Goals as goal

pub returns-clause-spells : goal.returns-clause-spells
returns-clause-spells c = Spells-ok value_text IsValue value_of value_codec c.args.word.now c.read.result c.read.ensures
