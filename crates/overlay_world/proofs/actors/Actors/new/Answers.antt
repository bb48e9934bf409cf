use Rattle.std.proofs.Common.{ap, ◌∙◌}
use Rattle.std.specs.Ordering.{nat_cmp}
use Rattle.std.specs.FinMap as map
use Rattle.ordered_tables.proofs.Trees.{seen_empty}
use Rattle.overlay_world.proofs.actors.Actors.new.Goals as goal

pub returns : goal.returns
returns c = ap (λ es. map.from_sorted {R = nat_cmp} es) c.new.ensures.items ∙ seen_empty nat_cmp
