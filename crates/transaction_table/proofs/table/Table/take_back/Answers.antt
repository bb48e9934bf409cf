use Rattle.std.proofs.Common.{◌∙◌}
use Rattle.std.specs.Prelude.{List}
use Rattle.due_list.specs.Entries.{Entry}
use Rattle.transaction_table.specs.Tables.{Txns}
use Rattle.transaction_table.proofs.Apart.{apart_lost}
use Rattle.transaction_table.proofs.Listed.{listed_lost}
use Rattle.transaction_table.proofs.TakenBack.{lost_before, none_before}
use Rattle.transaction_table.proofs.table.Table.take_back.Goals as goal

pub invariant_of-self : goal.invariant_of-self
invariant_of-self c =
    let t : Txns = record { outboxes = c.self.inside.outboxes; issued = c.self.inside.issued } in
    let es : List Entry = c.self.inside.due.entries in (
      apart_lost t c.self.invariant.0 c.in-Some.last c.args.peer.0 _ c.in-Some.ensures,
      listed_lost t c.self.invariant.0 es c.self.invariant.1 c.in-Some.last c.args.peer.0 _ c.in-Some.ensures,
    )

pub returns-in-Some : goal.returns-in-Some
returns-in-Some c before now x to is =
    let t : Txns = record { outboxes = c.self.inside.outboxes; issued = c.self.inside.issued } in
    lost_before t before now x c.args.peer to (c.self.view_is ∙ is) c.in-Some.last _ c.in-Some.ensures

pub returns-in-None : goal.returns-in-None
returns-in-None c before now x to is =
    let t : Txns = record { outboxes = c.self.inside.outboxes; issued = c.self.inside.issued } in
    none_before t before now x c.args.peer to (c.self.view_is ∙ is) c.pop_last.new.self c.in-None.ensures.0 c.in-None.ensures.1 _ c.forget.ensures
