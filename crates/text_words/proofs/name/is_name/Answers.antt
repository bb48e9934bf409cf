use Rattle.std.proofs.Common.{arith}
use Rattle.std.proofs.lemmas.Grind.{common_steps}
use Rattle.text_words.specs.Name.{is_name}
use Rattle.text_words.proofs.NameLaws.{is_name-IsName}
use Rattle.text_words.proofs.name.is_name.Goals as goal

pub returns-then-word-le-MAX_NAME-clause-value : goal.returns-then-word-le-MAX_NAME-clause-value
unfolding is_name
returns-then-word-le-MAX_NAME-clause-value c = grind (arith, common_steps)

pub returns-then-word-le-MAX_NAME-clause-holds : goal.returns-then-word-le-MAX_NAME-clause-holds
returns-then-word-le-MAX_NAME-clause-holds c = rw (returns-then-word-le-MAX_NAME-clause-value c) (is_name-IsName c.args.word.now)
