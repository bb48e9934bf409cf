use Rattle.std.specs.Option.{option_copied}
use Rattle.text_words.specs.Labelled.{at_name, at_name_of}
use Rattle.text_words.specs.Name.{IsName}
use Rattle.text_words.proofs.CodecLaws.{Spells-from}
use Rattle.text_words.proofs.LabelledLaws.{at_name_codec}
use Rattle.text_words.proofs.labelled.at_name_of.Goals as goal

pub returns-clause-spells : goal.returns-clause-spells
returns-clause-spells c = Spells-from at_name IsName at_name_of at_name_codec c.args.word.now (option_copied c.read_at_name.result) c.read_at_name.ensures
