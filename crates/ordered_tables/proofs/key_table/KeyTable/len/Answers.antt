use Rattle.std.proofs.Common.{◌≡◌, refl, ap, sym, subst, ◌∙◌}
use Rattle.std.specs.Prelude.{Some, None, is_some, unwrap_or, if◌then◌else◌}
use Rattle.std.specs.Ordering.{nat_cmp}
use Rattle.std.specs.Cmp.Lexicographic.{slice_cmp}
use Rattle.std.specs.FinMap as map
use Rattle.ordered_tables.proofs.Trees.{seen_empty, if_there, if_none, or_there, or_none}
use Rattle.ordered_tables.proofs.KeyMaps.{keyed_of, keyed_get, keyed_insert, keyed_set, keyed_remove, keyed_len, keyed_entries}
use Rattle.ordered_tables.proofs.key_table.KeyTable.len.Goals as goal

pub returns-clause-value : goal.returns-clause-value
returns-clause-value g c = c.len.ensures.len ∙ sym (keyed_len c.self.inside.tree.entries c.self.invariant) ∙ ap map.len c.self.view_is
