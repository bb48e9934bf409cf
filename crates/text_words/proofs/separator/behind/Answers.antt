use Rattle.std.proofs.Common.{◌∙◌, ap, rules}
use Rattle.text_words.specs.Separator.{behind}
use Rattle.text_words.proofs.SeparatorLaws.{behind_found, behind-append}
use Rattle.text_words.proofs.separator.behind.Goals as goal

pub returns-clause-value : goal.returns-clause-value
unfolding behind
returns-clause-value c = search rules

pub returns-clause-found : goal.returns-clause-found
returns-clause-found c = behind_found (λ part. part.now) c.args.text.now c.args.bytes.now c.strip_prefix.result (returns-clause-value c)

pub returns-clause-only : goal.returns-clause-only
returns-clause-only c rest is = returns-clause-value c ∙ ap (behind c.args.text.now) is ∙ behind-append c.args.text.now rest
