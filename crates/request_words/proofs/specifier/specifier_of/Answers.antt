use Rattle.text_words.proofs.CodecLaws.{Spells-ok}
use Rattle.request_words.specs.Specifiers.{specifier_of, specifier_text, IsSpecifier}
use Rattle.request_words.proofs.SpecifierLaws.{specifier_codec}
use Rattle.request_words.proofs.specifier.specifier_of.Goals as goal

pub returns-clause-spells : goal.returns-clause-spells
returns-clause-spells c = Spells-ok specifier_text IsSpecifier specifier_of specifier_codec c.args.word.now c.read.result c.read.ensures
