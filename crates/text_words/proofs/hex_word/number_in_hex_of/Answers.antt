use Rattle.std.proofs.Common.{◌^◌, ◌<◌}
use Rattle.text_words.specs.Hex.{number_in_hex, number_in_hex_of}
use Rattle.text_words.proofs.CodecLaws.{Spells-from}
use Rattle.text_words.proofs.IdLaws.{number_in_hex_codec}
use Rattle.text_words.proofs.hex_word.number_in_hex_of.Goals as goal

pub returns-clause-spells : goal.returns-clause-spells
returns-clause-spells c = Spells-from number_in_hex (λ n. n < 2 ^ 32) number_in_hex_of number_in_hex_codec c.args.word.now c.read_number.result c.read_number.ensures
