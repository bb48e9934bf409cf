use Rattle.std.proofs.Common.{rules, ◌∙◌, ◌<◌, ap, sym, subst}
use Rattle.reload_ids.specs.declared.NodeId.{NodeId}
use Rattle.std.specs.Prelude.{Bool, ◌==◌, not}
use Rattle.std.proofs.lemmas.Fn.{filter_same}
use Rattle.std.proofs.lemmas.List.Kept.{AllPairs-filter}
use Rattle.chord_tables.specs.Neighbours.{without}
use Rattle.chord_tables.specs.Rising.{IsRising}
use Rattle.chord_tables.specs.Tables.{ids}
use Rattle.chord_tables.proofs.Ranks.{without_ids}
use Rattle.chord_tables.proofs.rising.Rising.remove.Goals as goal

pub invariant_of-self : goal.invariant_of-self
invariant_of-self c =
    let x = c.args.node.0 in
    let test : NodeId → Bool = λ n. not (n.0 == x) in
    let kept = filter_same _ test _ (λ n b f' k. search rules) _ _ c.retain.ensures.filtered in
    subst IsRising (sym (ap ids kept ∙ without_ids c.self.inside.nodes.items x))
    (AllPairs-filter (λ a b. a < b) (λ a. not (a == x)) (ids c.self.inside.nodes.items)
    c.self.invariant)

pub returns : goal.returns
returns c =
    let x = c.args.node.0 in
    let test : NodeId → Bool = λ n. not (n.0 == x) in
    let kept = filter_same _ test _ (λ n b f' k. search rules) _ _ c.retain.ensures.filtered in
    ap ids kept ∙ without_ids c.self.inside.nodes.items x ∙ ap (without x) c.self.view_is
