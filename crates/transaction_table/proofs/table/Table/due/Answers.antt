use Rattle.std.proofs.Common.{◌+◌, ◌≤◌, length, ap, sym, subst, ◌∙◌}
use Rattle.std.specs.Prelude.{List, map}
use Rattle.std.specs.FinMap.{len}
use Rattle.std.proofs.lemmas.Result.{IfOk-weaker}
use Rattle.due_list.specs.Entries.{Entry}
use Rattle.transaction_table.specs.Tables.{Txns, due_spots}
use Rattle.transaction_table.proofs.Dues.{spot_at, dues_are, due_few}
use Rattle.transaction_table.proofs.table.Table.due.Goals as goal

pub returns-clause-due : goal.returns-clause-due
returns-clause-due c =
    let t : Txns = record { outboxes = c.self.inside.outboxes; issued = c.self.inside.issued } in
    let es : List Entry = c.self.inside.due.entries in
    IfOk-weaker c.spots_of.result _ _
    (λ spots e. e ∙ ap (map spot_at) (c.as_slice.ensures ∙ c.in_ok-found.ensures.due)
    ∙ dues_are t es c.args.now c.in_ok-found.ensures.sound c.self.invariant.1
    ∙ ap (due_spots c.args.now) c.self.view_is)
    c.spots_of.ensures

pub returns-clause-few : goal.returns-clause-few
returns-clause-few c =
    let t : Txns = record { outboxes = c.self.inside.outboxes; issued = c.self.inside.issued } in
    let es : List Entry = c.self.inside.due.entries in
    IfOk-weaker c.spots_of.result _ _
    (λ spots e. subst (λ ss. length ss ≤ len c.args.self.now.outboxes + len c.args.self.now.issued)
    (sym (e ∙ ap (map spot_at) (c.as_slice.ensures ∙ c.in_ok-found.ensures.due)
    ∙ dues_are t es c.args.now c.in_ok-found.ensures.sound c.self.invariant.1
    ∙ ap (due_spots c.args.now) c.self.view_is))
    (due_few c.args.now c.args.self.now))
    c.spots_of.ensures
