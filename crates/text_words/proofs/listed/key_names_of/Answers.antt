use Rattle.text_words.specs.Listed.{AreNames, key_names_of, key_names_text}
use Rattle.text_words.proofs.CodecLaws.{Spells-ok}
use Rattle.text_words.proofs.ListedLaws.{key_names_codec}
use Rattle.text_words.proofs.listed.key_names_of.Goals as goal

pub returns-clause-spells : goal.returns-clause-spells
returns-clause-spells c = Spells-ok key_names_text AreNames key_names_of key_names_codec c.args.word.now c.read_key_names.result c.read_key_names.ensures
