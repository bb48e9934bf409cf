use Rattle.std.proofs.Common.{ap, sym, ◌∙◌}
use Rattle.std.specs.Prelude.{List}
use Rattle.std.specs.FinMap.{get, remove}
use Rattle.due_list.specs.Entries.{Entry}
use Rattle.transaction_table.specs.Tables.{Txns}
use Rattle.transaction_table.proofs.Apart.{with_issued, apart_ended}
use Rattle.transaction_table.proofs.Listed.{as_issued, listed_ended}
use Rattle.transaction_table.proofs.NumberMaps.{remove_none}
use Rattle.transaction_table.proofs.table.Table.end_request.Goals as goal

pub invariant_of-self : goal.invariant_of-self
invariant_of-self c =
    let t : Txns = record { outboxes = c.self.inside.outboxes; issued = c.self.inside.issued } in
    let es : List Entry = c.self.inside.due.entries in (
      with_issued t.outboxes _ _ c.remove.ensures.table (apart_ended t c.self.invariant.0 c.from.result),
      as_issued t es _ t.issued es (c.remove.ensures.table ∙ sym (remove_none c.from.result t.issued (sym c.in_err-peer.was ∙ c.remove.ensures.value))) c.self.invariant.1,
    )

pub invariant_of-self-2 : goal.invariant_of-self-2
invariant_of-self-2 c =
    let t : Txns = record { outboxes = c.self.inside.outboxes; issued = c.self.inside.issued } in
    let es : List Entry = c.self.inside.due.entries in (
      with_issued t.outboxes _ _ c.remove.ensures.table (apart_ended t c.self.invariant.0 c.from.result),
      as_issued t es _ _ c.clear.new.due.entries (c.remove.ensures.table ∙ ap (remove t.issued) c.from.ensures)
          (listed_ended t c.self.invariant.0 es c.self.invariant.1 c.args.id c.in_ok-peer.field-0 (ap (get t.issued) (sym c.from.ensures) ∙ sym c.remove.ensures.value ∙ c.in_ok-peer.was) c.clear.new.due.entries c.clear.ensures.times),
    )
