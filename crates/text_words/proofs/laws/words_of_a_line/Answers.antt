use Rattle.text_words.proofs.PiecesLaws.{joined-pieces_of, pieces_of-lack, pieces_of-are}
use Rattle.std.proofs.Common.{◌∷◌}
use Rattle.text_words.proofs.laws.words_of_a_line.Goals as goal

pub returns-clause-line : goal.returns-clause-line
returns-clause-line c line = joined-pieces_of 32 line

pub returns-clause-lack : goal.returns-clause-lack
returns-clause-lack c line = pieces_of-lack 32 line

pub returns-clause-only : goal.returns-clause-only
returns-clause-only c word words first each = pieces_of-are 32 (word ∷ words) (first, each)
