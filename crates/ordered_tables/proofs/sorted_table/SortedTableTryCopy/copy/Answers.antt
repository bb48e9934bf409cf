use Rattle.std.proofs.Common.{ap, sym, subst, ◌∙◌}
use Rattle.std.specs.Ordering.{nat_cmp}
use Rattle.std.specs.FinMap as map
use Rattle.ordered_tables.specs.Places.{Rises}
use Rattle.ordered_tables.proofs.sorted_table.SortedTableTryCopy.copy.Goals as goal

pub invariant_of-result : goal.invariant_of-result
invariant_of-result g c = subst Rises (sym (c.in_ok-copied.ensures ∙ c.as_slice.ensures.value)) c.self.invariant

pub returns : goal.returns
returns g c = ap (λ es. map.from_sorted {R = nat_cmp} es) (c.in_ok-copied.ensures ∙ c.as_slice.ensures.value) ∙ c.self.view_is
