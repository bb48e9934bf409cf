use Rattle.std.proofs.Common.{◌≡◌, length}
use Rattle.request_words.specs.Groups.{with_words}
use Rattle.request_words.proofs.groups.with_words.Given as goal

abbrev pub invariant-words : goal.invariant-words
invariant-words l = with_words l.so_far l.words ≡ with_words l.fn.first l.fn.words

abbrev pub decreases-words : goal.decreases-words
decreases-words l = length l.words
