use Rattle.std.proofs.Common.{◌≤◌, arith}
use Rattle.std.specs.Fmt.{decimal}
use Rattle.text_words.specs.Decimal.{number_of}
use Rattle.text_words.proofs.CodecLaws.{Spells-from}
use Rattle.text_words.proofs.DecimalLaws.{number_codec}
use Rattle.text_words.proofs.decimal.number_of.Goals as goal

pub returns-clause-spells : goal.returns-clause-spells
returns-clause-spells c =
    Spells-from decimal (λ n. (c.args.least ≤ n) × (n ≤ c.args.most)) (number_of c.args.least c.args.most) (number_codec c.args.least c.args.most (omega arith)) c.args.word.now c.read_from.result c.read_from.ensures
