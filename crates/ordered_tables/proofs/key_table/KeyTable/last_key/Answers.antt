use lib.Dec.{T}
use Rattle.std.proofs.Common.{◌≡◌, ap, sym, subst, ◌∙◌}
use Rattle.std.specs.Prelude.{Some, None, map}
use Rattle.std.specs.List.{last_or}
use Rattle.std.specs.FinMap.{keys, entries}
use Rattle.ordered_tables.proofs.Trees.{last_of, last_of_none}
use Rattle.ordered_tables.proofs.KeyMaps.{keyed_entries}
use Rattle.ordered_tables.proofs.key_table.KeyTable.last_key.Goals as goal

pub returns-in-Some : goal.returns-in-Some
returns-in-Some g c =
    ap Some c.as_slice.ensures.value ∙ sym (last_of (λ e. (e.0.items, e.1)) (λ e. e.0) c.self.inside.tree.entries (c.in-Some.key.now, c.in-Some.field-0-1.now) None c.in-Some.ensures.last)
    ∙ ap (λ es. last_or None (map (λ e. e.0) es)) (sym (keyed_entries c.self.inside.tree.entries c.self.invariant)) ∙ ap (λ m. last_or None (keys m)) c.self.view_is

pub returns-in-None : goal.returns-in-None
returns-in-None g c =
    sym (last_of_none (λ e. (e.0.items, e.1)) (λ e. e.0) c.self.inside.tree.entries (λ more. subst T (sym (c.in-None.ensures.variant.1 more)) tt))
    ∙ ap (λ es. last_or None (map (λ e. e.0) es)) (sym (keyed_entries c.self.inside.tree.entries c.self.invariant)) ∙ ap (λ m. last_or None (keys m)) c.self.view_is
