use Rattle.std.proofs.Common.{ap, sym, subst, ◌∙◌, Some}
use Rattle.std.specs.List.{insert}
use Rattle.std.specs.Ordering.{nat_cmp}
use Rattle.std.specs.FinMap as map
use Rattle.ordered_tables.specs.Places.{Rises}
use Rattle.ordered_tables.proofs.Places.{read_there, get_gap, written_rises, written_there, insert_rises, insert_gap}
use Rattle.ordered_tables.proofs.sorted_table.SortedTable.insert.Goals as goal

pub invariant_of-self : goal.invariant_of-self
invariant_of-self g c =
    written_rises c.self.inside.rows.items c.args.key c.in-Ok.place c.index_mut.result.now c.self.invariant c.in-Ok.ensures.0 c.in-Ok.ensures.1 c.index_mut.ensures.value c.replace.new.dest

pub invariant_of-self-in-Err : goal.invariant_of-self-in-Err
invariant_of-self-in-Err g c =
    subst Rises (sym (c.in_ok-insert-in-Err.ensures.items ∙ ap (λ es. insert es c.in-Err.place (c.args.key, c.args.value)) c.find_room.ensures))
    (insert_rises c.self.inside.rows.items c.args.key c.in-Err.place c.args.value c.self.invariant c.in-Err.ensures.0 c.in-Err.ensures.1 c.in-Err.ensures.2)

pub returns-in-Ok-clause-before : goal.returns-in-Ok-clause-before
returns-in-Ok-clause-before g c =
    ap (λ v. Some v) c.replace.ensures.value
    ∙ read_there c.self.inside.rows.items c.args.key c.in-Ok.place c.index_mut.result.now c.self.invariant c.in-Ok.ensures.0 c.in-Ok.ensures.1 c.index_mut.ensures.value
    ∙ ap (λ m. map.get m c.args.key) c.self.view_is

pub returns-in-Ok-clause-ok : goal.returns-in-Ok-clause-ok
returns-in-Ok-clause-ok g c =
    written_there c.self.inside.rows.items c.args.key c.in-Ok.place c.index_mut.result.now c.self.invariant c.in-Ok.ensures.0 c.in-Ok.ensures.1 c.index_mut.ensures.value c.replace.new.dest
    ∙ ap (map.insert (map.from_sorted c.self.inside.rows.items) c.args.key) c.replace.ensures.after
    ∙ ap (λ m. map.insert m c.args.key c.args.value) c.self.view_is

pub returns-in_ok-insert-in-Err-clause-before : goal.returns-in_ok-insert-in-Err-clause-before
returns-in_ok-insert-in-Err-clause-before g c =
    sym (get_gap c.self.inside.rows.items c.args.key c.in-Err.place c.self.invariant c.in-Err.ensures.1 c.in-Err.ensures.2)
    ∙ ap (λ m. map.get m c.args.key) c.self.view_is

pub returns-in_ok-insert-in-Err-clause-ok : goal.returns-in_ok-insert-in-Err-clause-ok
returns-in_ok-insert-in-Err-clause-ok g c =
    ap (λ es. map.from_sorted {R = nat_cmp} es) (c.in_ok-insert-in-Err.ensures.items ∙ ap (λ es. insert es c.in-Err.place (c.args.key, c.args.value)) c.find_room.ensures)
    ∙ insert_gap c.self.inside.rows.items c.args.key c.in-Err.place c.args.value c.self.invariant c.in-Err.ensures.0 c.in-Err.ensures.1 c.in-Err.ensures.2
    ∙ ap (λ m. map.insert m c.args.key c.args.value) c.self.view_is
