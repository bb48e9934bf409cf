use Rattle.std.proofs.Common.{◌≡◌, ap, sym, ◌∙◌}
use Rattle.std.specs.FinMap as map
use Rattle.ordered_tables.proofs.Places.{read_there, get_gap}
use Rattle.overlay_world.proofs.actors.Actors.get.Goals as goal

pub returns-in-Ok : goal.returns-in-Ok
returns-in-Ok c =
    let key : c.from.result ≡ c.args.number = cc in
    read_there c.self.inside.rows.items c.from.result c.in-Ok.place c.index.result.now c.self.invariant.0 c.in-Ok.ensures.0 c.in-Ok.ensures.1 c.index.ensures
    ∙ ap (λ m. map.get m c.from.result) c.self.view_is
    ∙ ap (map.get c.args.self.now) key

pub returns-in-Err : goal.returns-in-Err
returns-in-Err c =
    let key : c.from.result ≡ c.args.number = cc in
    sym (get_gap c.self.inside.rows.items c.from.result c.in-Err.field-0 c.self.invariant.0 c.in-Err.ensures.1 c.in-Err.ensures.2)
    ∙ ap (λ m. map.get m c.from.result) c.self.view_is
    ∙ ap (map.get c.args.self.now) key
