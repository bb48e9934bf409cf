use Rattle.std.proofs.Common.{◌≡◌, ◌++◌, ◌∷◌, ap, sym, subst, ◌∙◌}
use Rattle.std.specs.Ordering.{nat_cmp}
use Rattle.std.specs.Cmp.{nat_cmp_total}
use Rattle.std.specs.Cmp.Lexicographic.{slice_cmp, nat_list_cmp_total}
use Rattle.std.specs.FinMap.{entries, insert}
use Rattle.std.specs.Map.Iter.{deref_pair}
use Rattle.std.proofs.lemmas.Map.Iter.{rest_more, rest_all}
use Rattle.ordered_tables.specs.Seen.{shown, IsRising}
use Rattle.ordered_tables.proofs.Trees.{sorted, entries-empty, copied_more, copied_all}
use Rattle.ordered_tables.proofs.KeyMaps.{keyed_entries}
use Rattle.ordered_tables.proofs.key_table.KeyTableTryCopy.copy.Goals as goal

pub loop-key-init : goal.loop-key-init
loop-key-init g c =
    ap (λ m. entries m ++ shown (λ k. k.items) c.into_iter-key-iterator.result) c.new-copy.ensures
    ∙ ap (λ es. es ++ shown (λ k. k.items) c.into_iter-key-iterator.result) (entries-empty (slice_cmp nat_cmp))

pub loop-key-preserved : goal.loop-key-preserved
loop-key-preserved g c =
    let rising : IsRising (λ k. k.items) (slice_cmp nat_cmp) c.into_iter-key-iterator.result = subst (IsRising (λ k. k.items) (slice_cmp nat_cmp)) (sym c.into_iter-key-iterator.ensures.into_iter_gives.0) c.self.invariant in
    ap (λ m. entries m ++ shown (λ k. k.items) c.next.new.self) c.in_ok-put_copy.ensures
    ∙ ap (λ k. entries (insert c.loop-key.copy k c.in-Some.value.now) ++ shown (λ k. k.items) c.next.new.self) c.as_slice.ensures.value
    ∙ copied_more (slice_cmp nat_cmp) nat_list_cmp_total c.loop-key.copy c.in-Some.key.now.items c.in-Some.value.now (shown (λ k. k.items) c.next.new.self) (shown (λ k. k.items) c.into_iter-key-iterator.result)
    (sorted (λ k. k.items) (slice_cmp nat_cmp) c.into_iter-key-iterator.result rising)
    (sym (ap (λ s. entries c.loop-key.copy ++ shown (λ k. k.items) s) (rest_more deref_pair c.loop-key.key-iterator c.next.new.self c.next.result (c.in-Some.key, c.in-Some.value) c.in-Some.is c.next.ensures.steps)) ∙ c.loop-key.invariant)

pub returns : goal.returns
returns g c =
    copied_all (slice_cmp nat_cmp) nat_list_cmp_total c.loop-key.copy c.args.self.now
    (ap (λ s. entries c.loop-key.copy ++ shown (λ k. k.items) s) (sym (rest_all deref_pair c.loop-key.key-iterator c.next.new.self c.next.result c.in-None.is c.next.ensures.steps))
    ∙ c.loop-key.invariant ∙ ap (shown (λ k. k.items)) c.into_iter-key-iterator.ensures.into_iter_gives.0
    ∙ sym (ap entries (sym c.self.view_is) ∙ keyed_entries c.self.inside.tree.entries c.self.invariant))
