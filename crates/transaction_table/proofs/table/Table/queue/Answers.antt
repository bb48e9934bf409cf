use Rattle.std.proofs.Common.{refl, ap, sym, subst, ◌∙◌}
use Rattle.std.specs.Prelude.{List}
use Rattle.std.specs.FinMap.{get, insert}
use Rattle.due_list.specs.Entries.{Entry}
use Rattle.transaction_table.specs.Tables.{Txns, IsNew}
use Rattle.transaction_table.specs.Timed.{time_of}
use Rattle.transaction_table.proofs.Apart.{apart_queued, apart_opened}
use Rattle.transaction_table.proofs.Listed.{as_outboxes, unlisted, listed_opened, listed_behind, then_times, none_there}
use Rattle.transaction_table.proofs.table.Table.queue.Goals as goal

pub invariant_of-self-then-has : goal.invariant_of-self-then-has
invariant_of-self-then-has c =
    let t : Txns = record { outboxes = c.self.inside.outboxes; issued = c.self.inside.issued } in
    let es : List Entry = c.self.inside.due.entries in
    let n : IsNew c.args.t.id t = subst (IsNew c.args.t.id) (sym c.self.view_is) c.requires.new in
    let k : IsNew c.into_message_of-message.result.1.id t = subst (λ i. IsNew i t) (sym (ap (λ p. p.1.id) c.into_message_of-message.ensures)) n in (
      apart_queued t c.self.invariant.0 c.into_message_of-message.result.1 k c.into_message_of-message.result.0.0 _ c.in_ok-push.ensures.ok,
      as_outboxes t es _ _ es c.in_ok-push.ensures.ok (listed_behind t c.self.invariant.0 es c.self.invariant.1 c.into_message_of-message.result.1 k c.into_message_of-message.result.0.0 (get t.outboxes c.into_message_of-message.result.0.0) refl),
    )

pub set-requires-clause-new : goal.set-requires-clause-new
set-requires-clause-new c =
    let t : Txns = record { outboxes = c.self.inside.outboxes; issued = c.self.inside.issued } in
    let es : List Entry = c.self.inside.due.entries in
    let n : IsNew c.args.t.id t = subst (IsNew c.args.t.id) (sym c.self.view_is) c.requires.new in
    let k : IsNew c.into_message_of-message.result.1.id t = subst (λ i. IsNew i t) (sym (ap (λ p. p.1.id) c.into_message_of-message.ensures)) n in
    ap (time_of c.into_message_of-message.result.1.id) c.reserve.ensures.entries ∙ unlisted t es c.self.invariant.1 c.into_message_of-message.result.1.id k

pub invariant_of-self-2 : goal.invariant_of-self-2
invariant_of-self-2 c =
    let t : Txns = record { outboxes = c.self.inside.outboxes; issued = c.self.inside.issued } in
    let es : List Entry = c.self.inside.due.entries in
    let n : IsNew c.args.t.id t = subst (IsNew c.args.t.id) (sym c.self.view_is) c.requires.new in
    let k : IsNew c.into_message_of-message.result.1.id t = subst (λ i. IsNew i t) (sym (ap (λ p. p.1.id) c.into_message_of-message.ensures)) n in
    let table = c.in_ok-insert.ensures.ok ∙ ap (insert _ _) c.new-outbox.ensures in (
      apart_opened t c.self.invariant.0 c.into_message_of-message.result.1 k c.args.now c.into_message_of-message.result.0.0 _ table,
      as_outboxes t es _ _ c.set.new.due.entries table
          (listed_opened t es c.self.invariant.1 c.into_message_of-message.result.1 k c.args.now c.into_message_of-message.result.0.0 (none_there _ (sym c.has.ensures ∙ c.if-has.false)) c.set.new.due.entries
          (λ i. then_times _ _ _ _ _ (c.set.ensures i) (ap (time_of i) c.reserve.ensures.entries))),
    )
