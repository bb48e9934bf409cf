use Rattle.std.proofs.Common.{◌≡◌, ap, sym, ◌∙◌}
use Rattle.storage_model.specs.Refusals.{first_cause}
use Rattle.kind_store.specs.Steps.{early_causes}
use Rattle.kind_store.proofs.Order.{or_else, first_cause_front}
use Rattle.kind_store.proofs.decide.cause_before.Goals as goal

pub returns-in-Some : goal.returns-in-Some
returns-in-Some c = ap (λ o. or_else o (first_cause (early_causes c.args.config.now c.args.resource.0 c.args.kinds.now c.args.request.now))) c.in-Some.ensures ∙ sym (first_cause_front c.args.config.now c.args.resource.0 c.args.kinds.now c.args.request.now)

pub returns-in-None : goal.returns-in-None
returns-in-None c = c.early_cause.ensures ∙ ap (λ o. or_else o (first_cause (early_causes c.args.config.now c.args.resource.0 c.args.kinds.now c.args.request.now))) c.in-None.ensures ∙ sym (first_cause_front c.args.config.now c.args.resource.0 c.args.kinds.now c.args.request.now)
