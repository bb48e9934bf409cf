use Rattle.std.proofs.Common.{ap, sym, ◌∙◌}
use Rattle.std.specs.Prelude.{map}
use Rattle.std.specs.Ordering.{nat_cmp}
use Rattle.std.specs.FinMap.{entries, entries-from_sorted}
use Rattle.std.proofs.lemmas.Result.{IfOk-weaker}
use Rattle.overlay_world.proofs.actors.Actors.numbers.Goals as goal

pub returns : goal.returns
returns c =
    IfOk-weaker c.numbers_in.result _ _
    (λ numbers is. is ∙ ap (map (λ row. row.0)) (c.as_slice.ensures.value ∙ sym (entries-from_sorted nat_cmp c.self.inside.rows.items c.self.invariant.0) ∙ ap entries c.self.view_is))
    c.numbers_in.ensures
