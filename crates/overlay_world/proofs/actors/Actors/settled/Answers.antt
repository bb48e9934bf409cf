use Rattle.std.proofs.Common.{ap, sym, ◌∙◌}
use Rattle.std.specs.List.{list_all}
use Rattle.std.specs.Ordering.{nat_cmp}
use Rattle.std.specs.FinMap.{entries, entries-from_sorted}
use Rattle.run_model.specs.Worlds.{is_still}
use Rattle.overlay_world.proofs.actors.Actors.settled.Goals as goal

pub returns : goal.returns
returns c =
    c.all_still.ensures
    ∙ ap (list_all (λ a. is_still a.1)) (sym (entries-from_sorted nat_cmp c.self.inside.rows.items c.self.invariant.0) ∙ ap entries c.self.view_is)
