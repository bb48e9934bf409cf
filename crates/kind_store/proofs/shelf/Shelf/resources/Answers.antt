use Rattle.std.proofs.Common.{◌≡◌, ◌++◌, ap, sym, ◌∙◌}
use Rattle.std.specs.Prelude.{map, filter}
use Rattle.std.specs.FinMap.{entries}
use Rattle.std.specs.Map.Iter.{deref_pair}
use Rattle.std.proofs.lemmas.Map.Iter.{rest_all}
use Rattle.storage_model.specs.Records.{Map}
use Rattle.kind_store.specs.Written.{was_written, resource_of, written}
use Rattle.ordered_tables.proofs.Trees.{same_shown, append_none}
use Rattle.kind_store.proofs.shelf.Shelf.resources.Goals as goal

pub returns : goal.returns
unfolding written
returns c =
    append_none c.loop-id.all
    ∙ ap (λ s. c.loop-id.all ++ map resource_of (filter was_written s)) (sym (rest_all deref_pair c.loop-id.id-iterator c.next.new.self c.next.result c.in-None.is c.next.ensures.steps))
    ∙ c.loop-id.invariant
    ∙ ap (λ s. map resource_of (filter was_written s)) (c.into_iter-id-iterator.ensures.into_iter_gives.0 ∙ sym (c.tree-id-items.ensures.entries ∙ same_shown c.tree-id-items.result.now.entries))
    ∙ ap (λ (m : Map). map resource_of (filter was_written (entries m))) c.self.view_is
