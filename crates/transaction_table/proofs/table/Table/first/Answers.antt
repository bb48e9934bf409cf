use Rattle.std.proofs.Common.{Some, None, ap, sym, ◌∙◌}
use Rattle.std.specs.Prelude.{List}
use Rattle.std.specs.Option.{option_map}
use Rattle.due_list.specs.Entries.{Entry}
use Rattle.transaction_table.specs.Tables.{Txns, first_from, timers}
use Rattle.transaction_table.specs.Timed.{timer_at}
use Rattle.transaction_table.proofs.Timers.{first_is}
use Rattle.transaction_table.proofs.table.Table.first.Goals as goal

pub returns-in_err-due : goal.returns-in_err-due
returns-in_err-due c =
    let t : Txns = record { outboxes = c.self.inside.outboxes; issued = c.self.inside.issued } in
    let es : List Entry = c.self.inside.due.entries in
    c.from_residual.ensures ∙ ap (option_map timer_at) (sym c.in_err-due.was ∙ c.first.ensures.first)
    ∙ first_is t es c.first.ensures.sound c.self.invariant.1 ∙ ap (λ (n : Txns). first_from None (timers n)) c.self.view_is

pub returns : goal.returns
returns c =
    let t : Txns = record { outboxes = c.self.inside.outboxes; issued = c.self.inside.issued } in
    let es : List Entry = c.self.inside.due.entries in
    ap Some c.timer_of.ensures ∙ ap (option_map timer_at) (sym c.in_ok-due.was ∙ c.first.ensures.first)
    ∙ first_is t es c.first.ensures.sound c.self.invariant.1 ∙ ap (λ (n : Txns). first_from None (timers n)) c.self.view_is
