use Rattle.std.proofs.Common.{◌≡◌, length}
use Rattle.text_words.specs.Steps.{each_of}
use Rattle.text_words.proofs.CodecLaws.{more_of}
use Rattle.request_words.specs.Specifiers.{specifier_of}
use Rattle.scenario_text.proofs.lines.fetch.specifiers_of.Given as goal

abbrev pub invariant-words : goal.invariant-words
invariant-words l = more_of l.specifiers (each_of specifier_of l.words) ≡ each_of specifier_of l.fn.words

abbrev pub decreases-words : goal.decreases-words
decreases-words l = length l.words
