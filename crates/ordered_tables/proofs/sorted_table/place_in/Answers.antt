use Rattle.std.proofs.Common.{subst, sym, rules}
use Rattle.std.proofs.lemmas.List.Sorted.{answers_always}
use Rattle.ordered_tables.specs.Places.{Rises, IsPlace}
use Rattle.ordered_tables.proofs.Places.{searched}
use Rattle.ordered_tables.proofs.sorted_table.place_in.Goals as goal

-- the closure gives a row's key
pub returns : goal.returns
returns g c =
    let facts = c.binary_search_by_key.ensures in
    let by_key = facts.position (λ row. row.0) (answers_always _ _ _ (λ f a r g called. search rules)) in
    subst (λ rows. IsPlace c.args.key rows c.binary_search_by_key.result) c.as_slice.ensures.value
    (searched _ c.args.key _ (subst Rises (sym c.as_slice.ensures.value) c.requires) facts.bound by_key)
