use Rattle.text_words.proofs.CodecLaws.{Spells-ok}
use Rattle.request_words.specs.Values.{slot_key_of, slot_key_text, IsSlotKey}
use Rattle.request_words.proofs.ValueLaws.{slot_key_codec}
use Rattle.request_words.proofs.key.slot_key_of.Goals as goal

pub returns-clause-spells : goal.returns-clause-spells
returns-clause-spells c = Spells-ok slot_key_text IsSlotKey slot_key_of slot_key_codec c.args.word.now c.read.result c.read.ensures
