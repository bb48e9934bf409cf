use Rattle.std.proofs.Common.{◌≡◌, refl, ap, sym, subst, ◌∙◌}
use Rattle.std.specs.Prelude.{Some, None, is_some, unwrap_or, if◌then◌else◌}
use Rattle.std.specs.Ordering.{nat_cmp}
use Rattle.std.specs.Cmp.Lexicographic.{slice_cmp}
use Rattle.std.specs.FinMap as map
use Rattle.ordered_tables.proofs.Trees.{seen_empty, if_there, if_none, or_there, or_none}
use Rattle.ordered_tables.proofs.KeyMaps.{keyed_of, keyed_get, keyed_insert, keyed_set, keyed_remove, keyed_len, keyed_entries}
use Rattle.ordered_tables.proofs.key_table.KeyTable.insert.Goals as goal

pub returns-clause-before : goal.returns-clause-before
returns-clause-before g c =
    c.in_ok-insert.ensures.old ∙ sym (keyed_get c.into_vec.result.items c.self.inside.tree.entries c.self.invariant)
    ∙ ap (map.get (keyed_of c.self.inside.tree.entries)) c.into_vec.ensures ∙ ap (λ m. map.get m c.args.key) c.self.view_is

pub returns-clause-ok : goal.returns-clause-ok
returns-clause-ok g c =
    keyed_insert c.into_vec.result c.args.value c.self.inside.tree.entries c.insert.new.self.entries c.self.invariant c.insert.ensures.ordered c.in_ok-insert.ensures.entries
    ∙ ap (λ k. map.insert (keyed_of c.self.inside.tree.entries) k c.args.value) c.into_vec.ensures ∙ ap (λ m. map.insert m c.args.key c.args.value) c.self.view_is
