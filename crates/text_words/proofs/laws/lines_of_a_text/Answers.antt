use Rattle.text_words.proofs.LinesLaws.{lines_of-text, lines_of-lacks, lines_of-only, lines_of-first}
use Rattle.text_words.proofs.laws.lines_of_a_text.Goals as goal

pub returns-clause-text : goal.returns-clause-text
returns-clause-text c = lines_of-text

pub returns-clause-lacks : goal.returns-clause-lacks
returns-clause-lacks c = lines_of-lacks

pub returns-clause-only : goal.returns-clause-only
returns-clause-only c = lines_of-only

pub returns-clause-first : goal.returns-clause-first
returns-clause-first c = lines_of-first
