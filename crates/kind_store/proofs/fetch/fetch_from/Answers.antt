use Rattle.std.proofs.Common.{◌≡◌, cond, sym, ap, ◌∙◌}
use Rattle.storage_model.specs.declared.refusal.Refusal.TheVariants.{ResponseTooLarge}
use Rattle.storage_model.specs.declared.verdict.FetchVerdict.TheVariants.{Values, Refused}
use Rattle.storage_model.specs.Fetches.{is_too_long}
use Rattle.kind_store.specs.declared.fetch.Found.{Found}
use Rattle.kind_store.proofs.Answering.{refused_early, all_found, answered_with}
use Rattle.kind_store.proofs.fetch.fetch_from.Goals as goal

pub returns-in-Some : goal.returns-in-Some
returns-in-Some c = refused_early c.args.config.now c.args.now c.args.kinds.now c.args.request.now c.in-Some.cause (sym c.early_cause.ensures ∙ c.in-Some.is)

pub returns : goal.returns
returns c =
    c.answer.ensures
    ∙ ap (λ (f : Found). cond (is_too_long c.args.request.now.max f.size) (Refused ResponseTooLarge) (Values f.kinds)) c.in_ok-found.ensures
    ∙ ap (λ specifiers. cond (is_too_long c.args.request.now.max (all_found c.args.now c.args.kinds.now specifiers).size) (Refused ResponseTooLarge) (Values (all_found c.args.now c.args.kinds.now specifiers).kinds)) c.as_slice.ensures
    ∙ answered_with c.args.config.now c.args.now c.args.kinds.now c.args.request.now (sym c.early_cause.ensures ∙ c.in_default.is)
