use Rattle.std.proofs.Common.{refl, ap, ◌∙◌}
use Rattle.std.specs.Prelude.{List}
use Rattle.std.specs.Option.{option_map}
use Rattle.std.specs.FinMap.{get}
use Rattle.due_list.specs.Entries.{Entry}
use Rattle.transaction_table.specs.declared.outbox.Outbox.{Outbox}
use Rattle.transaction_table.specs.Outboxes.{again_outbox}
use Rattle.transaction_table.specs.Tables.{Txns, Outboxes}
use Rattle.transaction_table.proofs.Apart.{with_outboxes, apart_changed_outbox}
use Rattle.transaction_table.proofs.Listed.{as_outboxes, head_repeated, head_missing}
use Rattle.transaction_table.proofs.table.Table.repeat_head.Goals as goal

pub pass-requires-clause-ended : goal.pass-requires-clause-ended
pass-requires-clause-ended c =
    let t : Txns = record { outboxes = c.self.inside.outboxes; issued = c.self.inside.issued } in
    let es : List Entry = c.self.inside.due.entries in
    (head_repeated t c.self.invariant.0 es c.self.invariant.1 c.args.now c.args.peer (get t.outboxes c.args.peer) refl c.in-Some.id
    (c.in-Some.ensures ∙ ap (λ (m : Outboxes). option_map (λ (o : Outbox). o.head.id) (get m c.args.peer)) c.repeat_head.ensures)).0

pub invariant_of-self : goal.invariant_of-self
invariant_of-self c =
    let t : Txns = record { outboxes = c.self.inside.outboxes; issued = c.self.inside.issued } in
    let es : List Entry = c.self.inside.due.entries in (
      with_outboxes _ _ t.issued c.repeat_head.ensures (apart_changed_outbox t c.self.invariant.0 (again_outbox c.args.now) c.args.peer (get t.outboxes c.args.peer) refl (λ o g. c.self.invariant.0.apart c.args.peer o g)),
      as_outboxes t es _ _ c.pass.new.due.entries c.repeat_head.ensures
          ((head_repeated t c.self.invariant.0 es c.self.invariant.1 c.args.now c.args.peer (get t.outboxes c.args.peer) refl c.in-Some.id
          (c.in-Some.ensures ∙ ap (λ (m : Outboxes). option_map (λ (o : Outbox). o.head.id) (get m c.args.peer)) c.repeat_head.ensures)).2 c.pass.new.due.entries c.pass.ensures),
    )

pub invariant_of-self-in_default : goal.invariant_of-self-in_default
invariant_of-self-in_default c =
    let t : Txns = record { outboxes = c.self.inside.outboxes; issued = c.self.inside.issued } in
    let es : List Entry = c.self.inside.due.entries in (
      with_outboxes _ _ t.issued c.repeat_head.ensures (apart_changed_outbox t c.self.invariant.0 (again_outbox c.args.now) c.args.peer (get t.outboxes c.args.peer) refl (λ o g. c.self.invariant.0.apart c.args.peer o g)),
      as_outboxes t es _ _ es c.repeat_head.ensures
          (head_missing t c.self.invariant.0 es c.self.invariant.1 c.args.now c.args.peer (get t.outboxes c.args.peer) refl
          (c.in_default.ensures ∙ ap (λ (m : Outboxes). option_map (λ (o : Outbox). o.head.id) (get m c.args.peer)) c.repeat_head.ensures)),
    )
