use Rattle.std.proofs.Common.{sym}
use Rattle.text_words.proofs.PiecesLaws.{takes_piece, takes_last, left_behind}
use Rattle.text_words.proofs.pieces.Pieces.take.Goals as goal

pub returns-in-Some-clause-first : goal.returns-in-Some-clause-first
returns-in-Some-clause-first c =
    takes_piece (λ bytes. bytes.now) c.self.inside.byte c.self.inside.rest c.in_ok-bytes.bytes c.args.self.now c.in-Some.piece.now c.in-Some.rest.now c.self.view_is c.in_ok-bytes.was (sym c.in-Some.ensures.value)

pub returns-in-None-clause-first : goal.returns-in-None-clause-first
returns-in-None-clause-first c =
    takes_last (λ bytes. bytes.now) c.self.inside.byte c.self.inside.rest c.in_ok-bytes.bytes c.args.self.now c.self.view_is c.in_ok-bytes.was (sym c.in-None.ensures.value)

pub returns-in-Some-clause-left : goal.returns-in-Some-clause-left
returns-in-Some-clause-left c = left_behind c.args.self.now c.in-Some.piece.now _ (returns-in-Some-clause-first c)

pub returns-in-None-clause-left : goal.returns-in-None-clause-left
returns-in-None-clause-left c = left_behind c.args.self.now c.in_ok-bytes.bytes.now _ (returns-in-None-clause-first c)
