use Rattle.std.proofs.Common.{◌≡◌, ap, sym, subst, ◌∙◌, arith}
use Rattle.std.specs.Ordering.{nat_cmp}
use Rattle.std.specs.FinMap as map
use Rattle.ordered_tables.specs.Places.{Rises}
use Rattle.ordered_tables.proofs.Places.{written_rises, written_there, insert_rises, insert_gap}
use Rattle.overlay_world.specs.Nodes.{AreNumbers}
use Rattle.overlay_world.proofs.Nodes.{numbers_written, numbers_inserted}
use Rattle.overlay_world.proofs.actors.Actors.insert.Goals as goal

pub invariant_of-self : goal.invariant_of-self
invariant_of-self c = (
  written_rises c.self.inside.rows.items c.from-key.result c.in-Ok.place c.index_mut.result.now c.self.invariant.0 c.in-Ok.ensures.0 c.in-Ok.ensures.1 c.index_mut.ensures.value c.replace.new.dest,
  numbers_written c.self.inside.rows.items c.in-Ok.place c.index_mut.result.now c.replace.new.dest c.in-Ok.ensures.0 c.index_mut.ensures.value c.self.invariant.1,
)

pub invariant_of-self-in-Err : goal.invariant_of-self-in-Err
invariant_of-self-in-Err c =
    let key : c.from-key.result ≡ c.args.number = cc in (
      subst Rises (sym c.in_ok-insert-in-Err.ensures.items)
          (insert_rises c.self.inside.rows.items c.from-key.result c.in-Err.place c.args.actor c.self.invariant.0 c.in-Err.ensures.0 c.in-Err.ensures.1 c.in-Err.ensures.2),
      subst AreNumbers (sym c.in_ok-insert-in-Err.ensures.items)
          (numbers_inserted c.self.inside.rows.items c.in-Err.place (c.from-key.result, c.args.actor) c.in-Err.ensures.0 (omega (arith, key)) c.self.invariant.1),
    )

pub returns-in-Ok : goal.returns-in-Ok
returns-in-Ok c =
    let key : c.from-key.result ≡ c.args.number = cc in
    written_there c.self.inside.rows.items c.from-key.result c.in-Ok.place c.index_mut.result.now c.self.invariant.0 c.in-Ok.ensures.0 c.in-Ok.ensures.1 c.index_mut.ensures.value c.replace.new.dest
    ∙ ap (map.insert (map.from_sorted c.self.inside.rows.items) c.from-key.result) c.replace.ensures.after
    ∙ ap (λ m. map.insert m c.from-key.result c.args.actor) c.self.view_is
    ∙ ap (λ k. map.insert c.args.self.now k c.args.actor) key

pub returns-in_ok-insert-in-Err : goal.returns-in_ok-insert-in-Err
returns-in_ok-insert-in-Err c =
    let key : c.from-key.result ≡ c.args.number = cc in
    ap (λ es. map.from_sorted {R = nat_cmp} es) c.in_ok-insert-in-Err.ensures.items
    ∙ insert_gap c.self.inside.rows.items c.from-key.result c.in-Err.place c.args.actor c.self.invariant.0 c.in-Err.ensures.0 c.in-Err.ensures.1 c.in-Err.ensures.2
    ∙ ap (λ m. map.insert m c.from-key.result c.args.actor) c.self.view_is
    ∙ ap (λ k. map.insert c.args.self.now k c.args.actor) key
