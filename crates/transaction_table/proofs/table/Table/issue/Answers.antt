use Rattle.std.proofs.Common.{◌≡◌, refl, ap, sym, subst, ◌∙◌}
use Rattle.std.specs.Prelude.{List}
use Rattle.std.specs.FinMap.{insert}
use Rattle.due_list.specs.Entries.{Entry}
use Rattle.transaction_table.specs.declared.outbox.Request.{Request}
use Rattle.transaction_table.specs.Sends.{due_after}
use Rattle.transaction_table.specs.Tables.{Txns, IsNew}
use Rattle.transaction_table.specs.Timed.{time_of}
use Rattle.transaction_table.proofs.Apart.{with_issued, apart_issued}
use Rattle.transaction_table.proofs.Listed.{as_issued, unlisted, listed_issued, then_times}
use Rattle.transaction_table.proofs.table.Table.issue.Goals as goal

pub set-requires-clause-new : goal.set-requires-clause-new
set-requires-clause-new c =
    let t : Txns = record { outboxes = c.self.inside.outboxes; issued = c.self.inside.issued } in
    let es : List Entry = c.self.inside.due.entries in
    let n : IsNew c.args.t.id t = subst (IsNew c.args.t.id) (sym c.self.view_is) c.requires.new in
    let k : IsNew c.into_message_of-message.result.1.id t = subst (λ i. IsNew i t) (sym (ap (λ p. p.1.id) c.into_message_of-message.ensures)) n in
    ap (time_of c.into_message_of-message.result.1.id) c.reserve.ensures.entries ∙ unlisted t es c.self.invariant.1 c.into_message_of-message.result.1.id k

pub invariant_of-self-2 : goal.invariant_of-self-2
invariant_of-self-2 c =
    let t : Txns = record { outboxes = c.self.inside.outboxes; issued = c.self.inside.issued } in
    let es : List Entry = c.self.inside.due.entries in
    let n : IsNew c.args.t.id t = subst (IsNew c.args.t.id) (sym c.self.view_is) c.requires.new in
    let k : IsNew c.into_message_of-message.result.1.id t = subst (λ i. IsNew i t) (sym (ap (λ p. p.1.id) c.into_message_of-message.ensures)) n in
    let z : Request = record { peer = c.into_message_of-message.result.0; message = c.into_message_of-message.result.1; sends = 1; due = due_after c.args.now } in
    let table : c.insert.new.self ≡ insert t.issued c.into_message_of-message.result.1.id z = c.in_ok-insert.ensures.ok ∙ ap (λ i. insert t.issued i z) c.from.ensures in (
      with_issued t.outboxes _ _ table (apart_issued t c.self.invariant.0 c.into_message_of-message.result.1.id z k.0),
      as_issued t es _ _ c.set.new.due.entries table
          (listed_issued t es c.self.invariant.1 c.into_message_of-message.result.1.id z k refl c.set.new.due.entries (λ i. then_times _ _ _ _ _ (c.set.ensures i) (ap (time_of i) c.reserve.ensures.entries))),
    )
