use Rattle.std.proofs.Common.{◌≡◌, ◌≤◌, ◌+◌, ap, sym, subst, ◌∙◌}
use Rattle.storage_model.specs.Records.{weight}
use Rattle.storage_model.specs.Puts.{kinds_after}
use Rattle.kind_store.proofs.Order.{light_after, accepted_record, kept_record}
use Rattle.std.specs.Prelude.{IfSome}
use Rattle.storage_model.specs.Records.{Record, Kinds}
use Rattle.record_state.specs.Log.{kinds_undone}
use Rattle.record_state.specs.Rings.{taken_back}
use Rattle.kind_store.specs.declared.undo.RecordUndo.TheVariants.{Noted}
use Rattle.kind_store.specs.Undoing.{IsRecordUndo}
use Rattle.kind_store.proofs.Undoings.{record_with, noted_back, first_of}
use Rattle.kind_store.proofs.record.Record.accept.Goals as goal

pub invariant_of-self : goal.invariant_of-self
invariant_of-self c = subst (λ ks. weight ks ≤ 131072) (sym (c.commit-after.ensures.kinds ∙ c.in-Ok-Some.ensures.kinds)) (light_after c.args.config.now (kinds_after c.args.now c.new-draft.result.kinds c.args.request.now.kinds) c.args.request.now c.in-Ok-Some.settled.0 (ap first_of (sym c.in-Ok-Some.field-0-is) ∙ c.in-Ok-Some.ensures.verdict))

pub returns-in-Ok-Some-clause-some : goal.returns-in-Ok-Some-clause-some
returns-in-Ok-Some-clause-some c _ =
    accepted_record c.args.config.now c.args.now c.args.origin c.args.id c.args.request.now c.args.self.now c.self.inside.turn c.self.inside.joined
    c.self.inside.kinds c.new-draft.result.kinds c.commit-after.result.0 c.self.inside.kept c.changed.new.kept c.in-Ok-Some.settled.0
    c.self.view_is (c.new-draft.ensures.kinds ∙ c.replace-kinds.ensures.value) (ap first_of (sym c.in-Ok-Some.field-0-is) ∙ c.in-Ok-Some.ensures.verdict) (c.commit-after.ensures.kinds ∙ c.in-Ok-Some.ensures.kinds) c.in-Ok-Some.ensures.kept

pub returns-in-Ok-None-clause-none : goal.returns-in-Ok-None-clause-none
returns-in-Ok-None-clause-none c _ =
    kept_record c.args.config.now c.args.origin c.args.id c.args.request.now c.args.self.now c.self.inside.turn c.self.inside.joined
    c.self.inside.kinds (kinds_after c.args.now c.new-draft.result.kinds c.args.request.now.kinds) c.rollback.result c.self.inside.kept c.changed.new.kept
    c.self.view_is (ap first_of (sym c.in-Ok-None.field-0-is) ∙ c.in-Ok-None.ensures.verdict)
    (c.rollback.ensures ∙ c.in-Ok-None.ensures.before ∙ c.new-draft.ensures.before ∙ c.replace-kinds.ensures.value) c.in-Ok-None.ensures.kept

pub returns-in-Ok-Some-clause-undo : goal.returns-in-Ok-Some-clause-undo
returns-in-Ok-Some-clause-undo c =
    let i = c.self.inside in
    let undo = c.commit-after.result.1 in
    let kinds : kinds_undone undo c.commit-after.result.0 ≡ i.kinds =
    ap (λ (ks : Kinds). kinds_undone undo ks) c.commit-after.ensures.kinds ∙ c.commit-after.ensures.undo ∙ c.in-Ok-Some.ensures.before ∙ c.new-draft.ensures.before ∙ c.replace-kinds.ensures.value in
    let answers : taken_back c.in-Ok-Some.settled.1 c.changed.new.kept ≡ i.kept = subst (λ o. IfSome o (λ d. taken_back d.1 c.changed.new.kept ≡ i.kept)) c.in-Ok-Some.field-0-is c.in-Ok-Some.ensures.oldest in
    subst (λ (x : Record). IsRecordUndo (Noted undo c.in-Ok-Some.settled.1) (record_with (i.turn + 1) i.joined c.commit-after.result.0 c.changed.new.kept) x) c.self.view_is
    (noted_back i.turn i.joined c.commit-after.result.0 i.kinds c.changed.new.kept i.kept undo c.in-Ok-Some.settled.1 kinds answers c.self.invariant)
