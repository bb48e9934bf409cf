use Rattle.std.proofs.Common.{◌∙◌, ap, subst, nat_cmp}
use Rattle.std.specs.Prelude.{◌==◌}
use Rattle.std.specs.List.{list_any}
use Rattle.std.specs.List.Sorted.{IsBinarySearchResult}
use Rattle.chord_tables.proofs.Ranks.{told}
use Rattle.chord_tables.proofs.rising.Rising.contains.Goals as goal

pub returns : goal.returns
returns c =
    c.is_ok.ensures.value
    ∙ told c.self.inside.nodes.items c.args.node.0 c.binary_search.result c.self.invariant
    (subst (λ l. IsBinarySearchResult (λ y. nat_cmp y.0 c.args.node.0) l c.binary_search.result)
    c.deref.ensures.value c.binary_search.ensures.position)
    ∙ ap (list_any (λ y. y == c.args.node.0)) c.self.view_is
