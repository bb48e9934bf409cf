use Rattle.std.proofs.Common.{◌∙◌, ap}
use Rattle.text_words.specs.Separator.{upto}
use Rattle.text_words.proofs.SeparatorLaws.{upto_found, upto_first, upto_missed, upto-append}
use Rattle.text_words.proofs.separator.upto.Goals as goal

pub returns-clause-found : goal.returns-clause-found
returns-clause-found c = upto_found (λ r. r.0.now) (λ r. r.1.now) c.args.byte c.args.bytes.now c.split_round.result c.split_round.ensures

pub returns-clause-first : goal.returns-clause-first
returns-clause-first c = upto_first (λ r. r.0.now) (λ r. r.1.now) c.args.byte c.args.bytes.now c.split_round.result c.split_round.ensures

pub returns-clause-only : goal.returns-clause-only
returns-clause-only c before behind lacks is =
    c.split_round.ensures ∙ ap (upto c.args.byte) is ∙ upto-append c.args.byte before behind lacks

pub returns-clause-none : goal.returns-clause-none
returns-clause-none c = upto_missed (λ r. r.0.now) (λ r. r.1.now) c.args.byte c.args.bytes.now c.split_round.result c.split_round.ensures
