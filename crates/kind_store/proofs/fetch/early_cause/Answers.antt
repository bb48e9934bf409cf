use Rattle.std.proofs.Common.{sym, ◌∙◌}
use Rattle.kind_store.proofs.Answering.{cause_first, cause_later}
use Rattle.kind_store.proofs.fetch.early_cause.Goals as goal

pub returns-in-Some : goal.returns-in-Some
returns-in-Some c = sym (cause_first _ _ c.in-Some.cause (sym c.sequence_cause.ensures ∙ c.in-Some.is))

pub returns-in-None : goal.returns-in-None
returns-in-None c = c.unknown_cause.ensures ∙ sym (cause_later _ _ (sym c.sequence_cause.ensures ∙ c.in-None.is))
