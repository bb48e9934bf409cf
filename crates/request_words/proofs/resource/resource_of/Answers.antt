use Rattle.text_words.proofs.CodecLaws.{Spells-ok}
use Rattle.request_words.specs.Resources.{resource_of, resource_text, IsResource}
use Rattle.request_words.proofs.ResourceLaws.{resource_codec}
use Rattle.request_words.proofs.resource.resource_of.Goals as goal

pub returns-clause-spells : goal.returns-clause-spells
returns-clause-spells c = Spells-ok resource_text IsResource resource_of resource_codec c.args.word.now c.read.result c.read.ensures
