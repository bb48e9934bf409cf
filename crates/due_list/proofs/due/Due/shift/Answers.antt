use Rattle.std.proofs.Common.{◌≡◌, sym, subst, ap, ◌∙◌}
use Rattle.due_list.specs.Entries.{Entry, AreInOrder, with_entry}
use Rattle.due_list.specs.Timers.{placed, all_placed}
use Rattle.due_list.proofs.Orders.{in_order_without}
use Rattle.due_list.proofs.Vectors.{in_order_back, on_success}
use Rattle.due_list.proofs.due.Due.shift.Goals as goal

pub put-back-requires : goal.put-back-requires
put-back-requires c = subst AreInOrder (sym c.take-timer.ensures.rest) (in_order_without c.args.place _ c.self.invariant)

pub returns-clause-sound : goal.returns-clause-sound
returns-clause-sound c =
    let e : Entry = placed (record c.take-timer.result { due = c.args.due }) in
    let put : all_placed c.put-back.new.timers.items ≡ with_entry e (all_placed c.take-timer.new.timers.items) = on_success c.put-back.result (sym c.is_ok.ensures.value ∙ c.if-prove.false) c.put-back.ensures.ok in
    subst AreInOrder (sym (put ∙ ap (with_entry e) c.take-timer.ensures.rest)) (in_order_back c.args.place c.args.due c.take-timer.result _ c.self.invariant c.take-timer.ensures.entry)

pub invariant_of-self : goal.invariant_of-self
invariant_of-self c = returns-clause-sound c
