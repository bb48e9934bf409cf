use Rattle.std.proofs.Common.{◌≡◌, refl, ap, sym, subst, ◌∙◌}
use Rattle.std.specs.Prelude.{Some, None, is_some, unwrap_or, if◌then◌else◌}
use Rattle.std.specs.Ordering.{nat_cmp}
use Rattle.std.specs.Cmp.Lexicographic.{slice_cmp}
use Rattle.std.specs.FinMap as map
use Rattle.std.specs.Option.{option_copied_mut}
use Rattle.ordered_tables.proofs.Trees.{seen_empty, if_there, if_none, or_there, or_none}
use Rattle.ordered_tables.proofs.NumberMaps.{numbered_of, numbered_get, numbered_insert, numbered_set, numbered_remove, numbered_len, numbered_entries}
use Rattle.ordered_tables.proofs.number_table.NumberTable.exchange.Goals as goal

pub returns-clause-there : goal.returns-clause-there
returns-clause-there g c = ap is_some (c.in-Some.ensures.value ∙ sym (numbered_get c.args.key c.self.inside.tree.entries c.self.invariant) ∙ ap (λ m. map.get m c.args.key) c.self.view_is)

pub returns-clause-table : goal.returns-clause-table
returns-clause-table g c =
    let after = c.get_mut.follows.lender c.swap.new.x in
    let writes = c.get_mut.follows.holds c.swap.new.x in
    numbered_set c.args.key c.swap.new.x c.self.inside.tree.entries after.entries c.self.invariant writes.4 (ap is_some (sym c.in-Some.ensures.value)) writes.0
    ∙ ap (map.insert (numbered_of c.self.inside.tree.entries) c.args.key) c.swap.ensures.x_after
    ∙ ap (λ m. map.insert m c.args.key c.args.value.now) c.self.view_is
    ∙ if_there _ _ _ _ (c.in-Some.ensures.value ∙ sym (numbered_get c.args.key c.self.inside.tree.entries c.self.invariant) ∙ ap (λ m. map.get m c.args.key) c.self.view_is)

pub returns-clause-value : goal.returns-clause-value
returns-clause-value g c = c.swap.ensures.y_after ∙ or_there _ _ _ (c.in-Some.ensures.value ∙ sym (numbered_get c.args.key c.self.inside.tree.entries c.self.invariant) ∙ ap (λ m. map.get m c.args.key) c.self.view_is)

pub returns-in_default-clause-there : goal.returns-in_default-clause-there
returns-in_default-clause-there g c = ap is_some (ap option_copied_mut (sym c.in_default.is) ∙ c.get_mut.ensures.value ∙ sym (numbered_get c.args.key c.self.inside.tree.entries c.self.invariant) ∙ ap (λ m. map.get m c.args.key) c.self.view_is)

pub returns-in_default-clause-table : goal.returns-in_default-clause-table
returns-in_default-clause-table g c = ap (λ t. numbered_of t.entries) c.get_mut.follows.holds-at-none ∙ c.self.view_is ∙ if_none _ _ _ (ap option_copied_mut (sym c.in_default.is) ∙ c.get_mut.ensures.value ∙ sym (numbered_get c.args.key c.self.inside.tree.entries c.self.invariant) ∙ ap (λ m. map.get m c.args.key) c.self.view_is)

pub returns-in_default-clause-value : goal.returns-in_default-clause-value
returns-in_default-clause-value g c = or_none _ _ (ap option_copied_mut (sym c.in_default.is) ∙ c.get_mut.ensures.value ∙ sym (numbered_get c.args.key c.self.inside.tree.entries c.self.invariant) ∙ ap (λ m. map.get m c.args.key) c.self.view_is)
