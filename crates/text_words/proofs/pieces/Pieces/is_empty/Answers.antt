use Rattle.text_words.proofs.PiecesLaws.{none_left}
use Rattle.text_words.proofs.pieces.Pieces.is_empty.Goals as goal

pub returns : goal.returns
returns c =
    none_left (λ bytes. bytes.now) c.self.inside.byte c.self.inside.rest c.args.self.now c.is_none.result c.self.view_is c.is_none.ensures
