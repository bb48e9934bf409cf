use Rattle.std.proofs.Common.{ap, sym, ◌∙◌}
use Rattle.std.specs.Prelude.{None}
use Rattle.std.specs.Option.{option_copied}
use Rattle.std.specs.FinMap as map
use Rattle.std.proofs.lemmas.Result.{on_ok_weaker}
use Rattle.storage_model.specs.Records.{SlotEntry, KindEntry}
use Rattle.record_state.specs.Undo.{slot_put}
use Rattle.record_state.proofs.Sweeps.{none_there, none_at, not_expired, emptied, with_held}
use Rattle.record_state.specs.contracts.slot.SlotState.{the_view}
use Rattle.record_state.proofs.expired.empty.Goals as goal

pub returns-in_default-clause-ok : goal.returns-in_default-clause-ok
returns-in_default-clause-ok c = none_there c.args.now c.args.id c.args.draft.now.kinds c.args.key (ap option_copied (sym c.in_default.is) ∙ c.get.ensures ∙ ap (λ ks. map.get ks c.args.id) c.kinds.ensures)

pub returns-in_default-get-clause-ok : goal.returns-in_default-get-clause-ok
returns-in_default-get-clause-ok c = none_at c.args.now c.args.id c.args.draft.now.kinds c.in-Some.kind.now c.args.key (c.in-Some.ensures ∙ ap (λ ks. map.get ks c.args.id) c.kinds.ensures) (ap option_copied (sym c.in_default-get.is) ∙ c.get-2.ensures ∙ (ap (λ m. map.get m c.as_slice.result.now) (c.table.ensures ∙ ap (λ (k : KindEntry). k.slots) c.kind.view_is) ∙ ap (map.get c.in-Some.kind.now.slots) c.as_slice.ensures))

pub returns-then-not-is_due-clause-ok : goal.returns-then-not-is_due-clause-ok
returns-then-not-is_due-clause-ok c = not_expired c.args.now c.args.id c.args.draft.now.kinds c.in-Some.kind.now c.args.key c.in-Some-get.slot.now (c.in-Some.ensures ∙ ap (λ ks. map.get ks c.args.id) c.kinds.ensures) (c.in-Some-get.ensures ∙ (ap (λ m. map.get m c.as_slice.result.now) (c.table.ensures ∙ ap (λ (k : KindEntry). k.slots) c.kind.view_is) ∙ ap (map.get c.in-Some.kind.now.slots) c.as_slice.ensures)) (sym c.if-not-is_due.true ∙ c.is_due.ensures)

pub returns-clause-ok : goal.returns-clause-ok
returns-clause-ok c =
    on_ok_weaker c.put.result
    (λ e. e
    ∙ ap (λ (k : KindEntry). slot_put c.args.draft.now.kinds c.args.id k.generation k.append_floor c.args.key (with_held (the_view c.slot.inside) None)) c.kind.view_is
    ∙ ap (λ (s : SlotEntry). slot_put c.args.draft.now.kinds c.args.id c.in-Some.kind.now.generation c.in-Some.kind.now.append_floor c.args.key (with_held s None)) c.slot.view_is
    ∙ emptied c.args.now c.args.id c.args.draft.now.kinds c.in-Some.kind.now c.args.key c.in-Some-get.slot.now (c.in-Some.ensures ∙ ap (λ ks. map.get ks c.args.id) c.kinds.ensures) (c.in-Some-get.ensures ∙ (ap (λ m. map.get m c.as_slice.result.now) (c.table.ensures ∙ ap (λ (k : KindEntry). k.slots) c.kind.view_is) ∙ ap (map.get c.in-Some.kind.now.slots) c.as_slice.ensures)) (sym c.if-not-is_due.false ∙ c.is_due.ensures))
    c.put.ensures.ok
