use Rattle.hex.specs.Hex.{encode_lower}
use Rattle.text_words.specs.Hex.{AllBytes, hex_of}
use Rattle.text_words.proofs.CodecLaws.{Spells-ok}
use Rattle.text_words.proofs.HexLaws.{hex_codec}
use Rattle.text_words.proofs.hex_word.hex_of.Goals as goal

pub returns-clause-spells : goal.returns-clause-spells
returns-clause-spells c = Spells-ok encode_lower AllBytes hex_of hex_codec c.args.word.now c.read.result c.read.ensures
