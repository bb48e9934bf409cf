use Rattle.std.proofs.Common.{◌^◌, ◌<◌}
use Rattle.text_words.specs.Transaction.{transaction_of, transaction_text}
use Rattle.text_words.proofs.CodecLaws.{Spells-from}
use Rattle.text_words.proofs.TransactionLaws.{transaction_codec}
use Rattle.text_words.proofs.transaction.transaction_of.Goals as goal

pub returns-clause-spells : goal.returns-clause-spells
returns-clause-spells c = Spells-from transaction_text (λ id. id < 2 ^ 64) transaction_of transaction_codec c.args.word.now c.read.result c.read.ensures
