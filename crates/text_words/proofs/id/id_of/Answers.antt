use Rattle.std.proofs.Common.{◌^◌, ◌<◌}
use Rattle.text_words.specs.Id.{id_of, id_text}
use Rattle.text_words.proofs.CodecLaws.{Spells-from}
use Rattle.text_words.proofs.IdLaws.{id_codec}
use Rattle.text_words.proofs.id.id_of.Goals as goal

pub returns-clause-spells : goal.returns-clause-spells
returns-clause-spells c = Spells-from id_text (λ id. id < 2 ^ 128) id_of id_codec c.args.word.now c.read.result c.read.ensures
