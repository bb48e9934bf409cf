use Rattle.std.proofs.Common.{sym, ◌∙◌}
use Rattle.std.specs.Prelude.{List}
use Rattle.due_list.specs.Entries.{Entry}
use Rattle.transaction_table.specs.Tables.{Txns}
use Rattle.transaction_table.proofs.Apart.{with_outboxes, apart_removed}
use Rattle.transaction_table.proofs.Listed.{as_outboxes, listed_removed}
use Rattle.transaction_table.proofs.NumberMaps.{remove_none}
use Rattle.transaction_table.proofs.table.Table.forget.Goals as goal

pub invariant_of-self : goal.invariant_of-self
invariant_of-self c =
    let t : Txns = record { outboxes = c.self.inside.outboxes; issued = c.self.inside.issued } in
    let es : List Entry = c.self.inside.due.entries in (
      with_outboxes _ _ t.issued c.remove.ensures.table (apart_removed t c.self.invariant.0 _),
      as_outboxes t es _ _ c.clear.new.due.entries c.remove.ensures.table
          (listed_removed t c.self.invariant.0 es c.self.invariant.1 c.args.peer.0 c.in-Some.outbox (sym c.remove.ensures.value ∙ c.in-Some.is) c.clear.new.due.entries c.clear.ensures.times),
    )

pub invariant_of-self-in_default : goal.invariant_of-self-in_default
invariant_of-self-in_default c =
    let t : Txns = record { outboxes = c.self.inside.outboxes; issued = c.self.inside.issued } in
    let es : List Entry = c.self.inside.due.entries in (
      with_outboxes _ _ t.issued c.remove.ensures.table (apart_removed t c.self.invariant.0 _),
      as_outboxes t es _ t.outboxes es (c.remove.ensures.table ∙ sym (remove_none c.args.peer.0 t.outboxes (sym c.in_default.is ∙ c.remove.ensures.value))) c.self.invariant.1,
    )
