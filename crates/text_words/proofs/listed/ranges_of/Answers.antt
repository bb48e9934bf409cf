use Rattle.text_words.specs.Listed.{AreRanges, ranges_of, ranges_text}
use Rattle.text_words.proofs.CodecLaws.{Spells-ok}
use Rattle.text_words.proofs.ListedLaws.{ranges_codec}
use Rattle.text_words.proofs.listed.ranges_of.Goals as goal

pub returns-clause-spells : goal.returns-clause-spells
returns-clause-spells c = Spells-ok ranges_text AreRanges ranges_of ranges_codec c.args.word.now c.read_ranges.result c.read_ranges.ensures
