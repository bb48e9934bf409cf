use Rattle.std.proofs.Common.{◌≤◌, arith}
use Rattle.text_words.specs.Labelled.{labelled, labelled_of}
use Rattle.text_words.proofs.CodecLaws.{Spells-from}
use Rattle.text_words.proofs.LabelledLaws.{labelled_codec}
use Rattle.text_words.proofs.labelled.labelled_of.Goals as goal

pub returns-clause-spells : goal.returns-clause-spells
returns-clause-spells c =
    Spells-from (labelled c.args.label.now) (λ n. n ≤ c.args.most) (labelled_of c.args.label.now c.args.most) (labelled_codec c.args.label.now c.args.most (omega arith)) c.args.word.now c.read_labelled.result c.read_labelled.ensures
