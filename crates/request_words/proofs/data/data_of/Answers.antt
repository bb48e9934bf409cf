use Rattle.text_words.proofs.CodecLaws.{Spells-ok}
use Rattle.request_words.specs.Values.{data_of, data_text, IsData}
use Rattle.request_words.proofs.ValueLaws.{data_codec}
use Rattle.request_words.proofs.data.data_of.Goals as goal

pub returns-clause-spells : goal.returns-clause-spells
returns-clause-spells c = Spells-ok data_text IsData data_of data_codec c.args.word.now c.read.result c.read.ensures
