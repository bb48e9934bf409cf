use Rattle.std.proofs.Common.{◌≡◌, ap, sym, subst, ◌∙◌}
use Rattle.std.specs.Prelude.{IfOk, IfSome, OnOk, unwrap_or, is_some}
use Rattle.std.proofs.lemmas.Result.{on_ok_weaker}
use Rattle.storage_model.specs.declared.refusal.Refusal.TheVariants.{DataTooLarge}
use Rattle.storage_model.specs.Records.{Record}
use Rattle.storage_model.specs.Verdict.{Outcome, refused}
use Rattle.kind_store.specs.Undoing.{IsRecordUndo}
use Rattle.kind_store.proofs.Undoings.{first_of}
use Rattle.kind_store.proofs.Order.{accepted_verdict, accepted_next, is_refused}
use Rattle.kind_store.proofs.record.Record.accept_or_refuse.Goals as goal

pub returns-in-Some-clause-verdict : goal.returns-in-Some-clause-verdict
returns-in-Some-clause-verdict c = accepted_verdict c.args.now c.args.self.now c.args.origin c.args.id c.args.request.now c.args.config.now c.in-Some.decided.0 (ap first_of (sym c.in-Some.is) ∙ c.in_ok-decided.ensures.verdict)

pub returns-in-Some-clause-next : goal.returns-in-Some-clause-next
returns-in-Some-clause-next c = accepted_next c.args.now c.args.self.now c.args.origin c.args.id c.args.request.now c.args.config.now c.in-Some.decided.0 c.accept.new.self (ap first_of (sym c.in-Some.is) ∙ c.in_ok-decided.ensures.verdict) (c.in_ok-decided.ensures.some (ap is_some c.in-Some.is))

pub returns-in-None-clause-verdict : goal.returns-in-None-clause-verdict
returns-in-None-clause-verdict c =
    subst (λ (out : Outcome). IfOk c.refuse.result (λ d. d.0 ≡ out.verdict))
    (ap (λ (y : Record). refused DataTooLarge y c.args.origin c.args.id c.args.request.now) (c.in_ok-decided.ensures.none c.in-None.is) ∙ is_refused c.args.now c.args.self.now c.args.origin c.args.id c.args.request.now c.args.config.now (ap first_of (sym c.in-None.is) ∙ c.in_ok-decided.ensures.verdict)) c.refuse.ensures.verdict

pub returns-in-None-clause-next : goal.returns-in-None-clause-next
returns-in-None-clause-next c =
    on_ok_weaker c.refuse.result
    (λ e. e ∙ ap (λ (y : Record). unwrap_or (refused DataTooLarge y c.args.origin c.args.id c.args.request.now).next y) (c.in_ok-decided.ensures.none c.in-None.is) ∙ ap (λ (out : Outcome). unwrap_or out.next c.args.self.now) (is_refused c.args.now c.args.self.now c.args.origin c.args.id c.args.request.now c.args.config.now (ap first_of (sym c.in-None.is) ∙ c.in_ok-decided.ensures.verdict)))
    c.refuse.ensures.next

pub returns-in-Some-clause-undo : goal.returns-in-Some-clause-undo
returns-in-Some-clause-undo c = subst (λ o. IfSome o (λ d. IsRecordUndo d.1 c.accept.new.self c.args.self.now)) c.in-Some.is c.in_ok-decided.ensures.undo

pub returns-in-None-clause-undo : goal.returns-in-None-clause-undo
returns-in-None-clause-undo c = subst (λ (y : Record). IfOk c.refuse.result (λ d. IsRecordUndo d.1 c.refuse.new.self y)) (c.in_ok-decided.ensures.none c.in-None.is) c.refuse.ensures.undo
