use Rattle.std.proofs.Common.{◌∙◌, sym}
use Rattle.request_words.specs.Groups.{with_words}
use Rattle.request_words.proofs.GroupLaws.{words_stop, words_go, words_end}
use Rattle.request_words.proofs.groups.with_words.Goals as goal

pub returns-in-None : goal.returns-in-None
returns-in-None c =
    words_stop c.words.so_far c.words.words c.in-Some.word.now c.take.new.self (with_words c.args.first c.args.words) c.words.invariant c.in-Some.ensures.first (sym c.in-None.is ∙ c.in_ok-with_word.ensures)

pub words-preserved : goal.words-preserved
words-preserved c =
    words_go c.words.so_far c.in-Some-2.next c.words.words c.in-Some.word.now c.take.new.self (with_words c.args.first c.args.words) c.words.invariant c.in-Some.ensures.first (sym c.in-Some-2.is ∙ c.in_ok-with_word.ensures)

pub returns : goal.returns
returns c = words_end c.words.so_far c.words.words c.closed.result (with_words c.args.first c.args.words) c.words.invariant c.in_default.ensures.first c.closed.ensures
