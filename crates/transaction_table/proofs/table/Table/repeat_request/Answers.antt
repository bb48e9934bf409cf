use Rattle.std.proofs.Common.{◌≡◌, refl, ap, sym, ◌∙◌}
use Rattle.std.specs.Prelude.{List, is_some, true, false}
use Rattle.std.specs.FinMap.{get}
use Rattle.due_list.specs.Entries.{Entry}
use Rattle.transaction_table.specs.Outboxes.{again_request, changed}
use Rattle.transaction_table.specs.Tables.{Txns, Requests}
use Rattle.transaction_table.proofs.Apart.{with_issued, apart_changed_request}
use Rattle.transaction_table.proofs.Listed.{as_issued, request_repeated, request_missing}
use Rattle.transaction_table.proofs.table.Table.repeat_request.Goals as goal

pub invariant_of-self : goal.invariant_of-self
invariant_of-self c =
    let t : Txns = record { outboxes = c.self.inside.outboxes; issued = c.self.inside.issued } in
    let es : List Entry = c.self.inside.due.entries in
    let table : c.repeat_request.new.self ≡ changed (again_request c.args.now) c.args.id t.issued (get t.issued c.args.id) = c.repeat_request.ensures ∙ ap (λ k. changed (again_request c.args.now) k t.issued (get t.issued k)) c.from-key.ensures in
    let has : is_some (get (changed (again_request c.args.now) c.args.id t.issued (get t.issued c.args.id)) c.args.id) ≡ true =
    ap (λ (m : Requests). is_some (get m c.args.id)) (sym table) ∙ ap (λ k. is_some (get c.repeat_request.new.self k)) (sym c.from-key.ensures) ∙ sym c.has.ensures ∙ c.if-has.true in (
      with_issued t.outboxes _ _ table (apart_changed_request t c.self.invariant.0 (again_request c.args.now) c.args.id (get t.issued c.args.id) refl),
      as_issued t es _ _ c.pass.new.due.entries table
          ((request_repeated t c.self.invariant.0 es c.self.invariant.1 c.args.now c.args.id (get t.issued c.args.id) refl has).2 c.pass.new.due.entries c.pass.ensures),
    )

pub invariant_of-self-else-has : goal.invariant_of-self-else-has
invariant_of-self-else-has c =
    let t : Txns = record { outboxes = c.self.inside.outboxes; issued = c.self.inside.issued } in
    let es : List Entry = c.self.inside.due.entries in
    let table : c.repeat_request.new.self ≡ changed (again_request c.args.now) c.args.id t.issued (get t.issued c.args.id) = c.repeat_request.ensures ∙ ap (λ k. changed (again_request c.args.now) k t.issued (get t.issued k)) c.from-key.ensures in
    let has : is_some (get (changed (again_request c.args.now) c.args.id t.issued (get t.issued c.args.id)) c.args.id) ≡ false =
    ap (λ (m : Requests). is_some (get m c.args.id)) (sym table) ∙ ap (λ k. is_some (get c.repeat_request.new.self k)) (sym c.from-key.ensures) ∙ sym c.has.ensures ∙ c.if-has.false in (
      with_issued t.outboxes _ _ table (apart_changed_request t c.self.invariant.0 (again_request c.args.now) c.args.id (get t.issued c.args.id) refl),
      as_issued t es _ _ es table (request_missing t c.self.invariant.0 es c.self.invariant.1 c.args.now c.args.id (get t.issued c.args.id) refl has),
    )
