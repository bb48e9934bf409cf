use Rattle.std.proofs.Common.{sym}
use Rattle.text_words.proofs.PiecesLaws.{first_piece, first_last}
use Rattle.text_words.proofs.pieces.Pieces.first.Goals as goal

pub returns-in-Some : goal.returns-in-Some
returns-in-Some c =
    first_piece (λ bytes. bytes.now) c.self.inside.byte c.self.inside.rest c.in_ok-bytes.bytes c.args.self.now c.in-Some.piece.now _ c.self.view_is c.in_ok-bytes.was (sym c.in-Some.ensures.value)

pub returns-in-None : goal.returns-in-None
returns-in-None c =
    first_last (λ bytes. bytes.now) c.self.inside.byte c.self.inside.rest c.in_ok-bytes.bytes c.args.self.now c.self.view_is c.in_ok-bytes.was (sym c.in-None.ensures.value)
