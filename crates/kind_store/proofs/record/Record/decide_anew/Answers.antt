use Rattle.std.proofs.Common.{◌≡◌, ap, sym, subst, ◌∙◌}
use Rattle.std.specs.Prelude.{IfOk, OnOk, unwrap_or}
use Rattle.storage_model.specs.Records.{Record}
use Rattle.storage_model.specs.Verdict.{Outcome}
use Rattle.kind_store.specs.Steps.{cause_before}
use Rattle.kind_store.proofs.Order.{decided_some, decided_none}
use Rattle.kind_store.proofs.record.Record.decide_anew.Goals as goal

pub returns-in-Some-clause-verdict : goal.returns-in-Some-clause-verdict
returns-in-Some-clause-verdict c = subst (λ (out : Outcome). IfOk c.refuse.result (λ d. d.0 ≡ out.verdict)) (decided_some c.args.config.now c.args.now c.args.resource.0 c.args.self.now c.args.origin c.args.id c.args.request.now c.in-Some.cause (c.in-Some.ensures ∙ ap (λ (x : Record). cause_before c.args.config.now c.args.resource.0 x.kinds c.args.request.now) c.self.view_is)) c.refuse.ensures.verdict

pub returns-in-Some-clause-next : goal.returns-in-Some-clause-next
returns-in-Some-clause-next c = subst (λ (out : Outcome). OnOk c.refuse.result (c.refuse.new.self ≡ unwrap_or out.next c.args.self.now)) (decided_some c.args.config.now c.args.now c.args.resource.0 c.args.self.now c.args.origin c.args.id c.args.request.now c.in-Some.cause (c.in-Some.ensures ∙ ap (λ (x : Record). cause_before c.args.config.now c.args.resource.0 x.kinds c.args.request.now) c.self.view_is)) c.refuse.ensures.next

pub returns-in-None-clause-verdict : goal.returns-in-None-clause-verdict
returns-in-None-clause-verdict c = subst (λ (out : Outcome). IfOk c.accept_or_refuse.result (λ d. d.0 ≡ out.verdict)) (decided_none c.args.config.now c.args.now c.args.resource.0 c.args.self.now c.args.origin c.args.id c.args.request.now (c.in-None.ensures ∙ ap (λ (x : Record). cause_before c.args.config.now c.args.resource.0 x.kinds c.args.request.now) c.self.view_is)) c.accept_or_refuse.ensures.verdict

pub returns-in-None-clause-next : goal.returns-in-None-clause-next
returns-in-None-clause-next c = subst (λ (out : Outcome). OnOk c.accept_or_refuse.result (c.accept_or_refuse.new.self ≡ unwrap_or out.next c.args.self.now)) (decided_none c.args.config.now c.args.now c.args.resource.0 c.args.self.now c.args.origin c.args.id c.args.request.now (c.in-None.ensures ∙ ap (λ (x : Record). cause_before c.args.config.now c.args.resource.0 x.kinds c.args.request.now) c.self.view_is)) c.accept_or_refuse.ensures.next
