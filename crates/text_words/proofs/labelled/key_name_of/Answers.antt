use Rattle.text_words.specs.Hex.{AllBytes}
use Rattle.text_words.specs.Labelled.{key_name, key_name_of}
use Rattle.text_words.proofs.CodecLaws.{Spells-ok}
use Rattle.text_words.proofs.LabelledLaws.{key_name_codec}
use Rattle.text_words.proofs.labelled.key_name_of.Goals as goal

pub returns-clause-spells : goal.returns-clause-spells
returns-clause-spells c = Spells-ok key_name AllBytes key_name_of key_name_codec c.args.word.now c.read_key_name.result c.read_key_name.ensures
