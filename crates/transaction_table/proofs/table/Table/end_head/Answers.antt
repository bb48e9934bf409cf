use Rattle.std.proofs.Common.{refl, ap, sym, ◌∙◌}
use Rattle.std.specs.Prelude.{List}
use Rattle.std.specs.Option.{option_map, option_copied}
use Rattle.std.specs.FinMap.{get}
use Rattle.due_list.specs.Entries.{Entry}
use Rattle.transaction_table.specs.declared.outbox.Outbox.{Outbox}
use Rattle.transaction_table.specs.Tables.{Txns, Outboxes}
use Rattle.transaction_table.proofs.Apart.{with_outboxes, apart_next}
use Rattle.transaction_table.proofs.Listed.{as_outboxes, head_passed}
use Rattle.transaction_table.proofs.Timers.{none_ended}
use Rattle.transaction_table.proofs.table.Table.end_head.Goals as goal

pub returns-in_err-outbox-clause-table : goal.returns-in_err-outbox-clause-table
returns-in_err-outbox-clause-table c =
    none_ended c.args.now c.args.peer c.args.self.now
    (ap option_copied (sym c.in_err-outbox.was) ∙ c.get.ensures ∙ ap (λ t. get t.outboxes c.args.peer) c.self.view_is)

pub pass-requires-clause-next : goal.pass-requires-clause-next
pass-requires-clause-next c =
    let t : Txns = record { outboxes = c.self.inside.outboxes; issued = c.self.inside.issued } in
    let es : List Entry = c.self.inside.due.entries in
    (head_passed t c.self.invariant.0 es c.self.invariant.1 c.args.now c.args.peer (get t.outboxes c.args.peer) refl c.in_ok-head.head (sym c.in_ok-head.was ∙ c.end_head.ensures.head)
    c.head_id-next.result (c.head_id-next.ensures ∙ ap (λ (m : Outboxes). option_map (λ (o : Outbox). o.head.id) (get m c.args.peer)) c.end_head.ensures.table)).1

pub invariant_of-self-2 : goal.invariant_of-self-2
invariant_of-self-2 c =
    let t : Txns = record { outboxes = c.self.inside.outboxes; issued = c.self.inside.issued } in
    let es : List Entry = c.self.inside.due.entries in (
      with_outboxes _ _ t.issued c.end_head.ensures.table (apart_next t c.self.invariant.0 c.args.now c.args.peer (get t.outboxes c.args.peer) refl),
      as_outboxes t es _ _ c.pass.new.due.entries c.end_head.ensures.table ((head_passed t c.self.invariant.0 es c.self.invariant.1 c.args.now c.args.peer (get t.outboxes c.args.peer) refl c.in_ok-head.head (sym c.in_ok-head.was ∙ c.end_head.ensures.head)
          c.head_id-next.result (c.head_id-next.ensures ∙ ap (λ (m : Outboxes). option_map (λ (o : Outbox). o.head.id) (get m c.args.peer)) c.end_head.ensures.table)).2 c.pass.new.due.entries c.pass.ensures),
    )
