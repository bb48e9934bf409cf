use Rattle.std.proofs.Common.{◌∙◌, ap, sym, subst, nat_cmp}
use Rattle.std.specs.Prelude.{Ok, Err}
use Rattle.std.specs.List.Sorted.{IsBinarySearchResult}
use Rattle.chord_tables.specs.Neighbours.{put_by}
use Rattle.chord_tables.specs.Rising.{IsRising}
use Rattle.chord_tables.specs.Tables.{ids}
use Rattle.chord_tables.proofs.Room.{insert_ids}
use Rattle.chord_tables.proofs.Ranks.{put_found, put_missed, rises_missed}
use Rattle.chord_tables.proofs.rising.Rising.put.Goals as goal

pub invariant_of-self : goal.invariant_of-self
invariant_of-self c =
    subst IsRising
    (insert_ids c.self.inside.nodes.items c.in-Err.place c.args.node
    ∙ ap ids (sym c.in_ok-insert.ensures.items))
    (rises_missed c.self.inside.nodes.items c.args.node.0 c.in-Err.place c.self.invariant
    (subst (λ l. IsBinarySearchResult (λ y. nat_cmp y.0 c.args.node.0) l (Err c.in-Err.place))
    c.deref.ensures.value c.in-Err.ensures.position))

pub returns-in_ok-insert-clause-ok : goal.returns-in_ok-insert-clause-ok
returns-in_ok-insert-clause-ok c =
    ap ids c.in_ok-insert.ensures.items
    ∙ sym (insert_ids c.self.inside.nodes.items c.in-Err.place c.args.node)
    ∙ put_missed c.self.inside.nodes.items c.args.node.0 c.in-Err.place c.self.invariant
    (subst (λ l. IsBinarySearchResult (λ y. nat_cmp y.0 c.args.node.0) l (Err c.in-Err.place))
    c.deref.ensures.value c.in-Err.ensures.position)
    ∙ ap (put_by (λ y. y) c.args.node.0) c.self.view_is

pub returns-in_default-clause-ok : goal.returns-in_default-clause-ok
returns-in_default-clause-ok c =
    sym c.self.view_is
    ∙ put_found c.self.inside.nodes.items c.args.node.0 c.in_default.field-0 c.self.invariant
    (subst (λ l. IsBinarySearchResult (λ y. nat_cmp y.0 c.args.node.0) l (Ok c.in_default.field-0))
    c.deref.ensures.value c.in_default.ensures.position)
    ∙ ap (put_by (λ y. y) c.args.node.0) c.self.view_is
