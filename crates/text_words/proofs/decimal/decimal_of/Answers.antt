use Rattle.std.proofs.Common.{◌≤◌, arith}
use Rattle.std.specs.Fmt.{decimal}
use Rattle.text_words.specs.Decimal.{decimal_of}
use Rattle.text_words.proofs.CodecLaws.{Spells-from}
use Rattle.text_words.proofs.DecimalLaws.{decimal_codec}
use Rattle.text_words.proofs.decimal.decimal_of.Goals as goal

pub returns-clause-spells : goal.returns-clause-spells
returns-clause-spells c =
    Spells-from decimal (λ n. n ≤ c.args.most) (decimal_of c.args.most) (decimal_codec c.args.most (omega arith)) c.args.word.now c.read.result c.read.ensures
