use Rattle.std.proofs.Common.{◌≡◌, ℕ, List, ◌++◌, ap, sym, subst, ◌∙◌, Vec, Global}
use Rattle.std.specs.Prelude.{map, fold, Some}
use Rattle.std.specs.List.{AllByRecursion}
use Rattle.std.specs.FinMap.{entries, get}
use Rattle.std.specs.Map.Iter.{deref_pair}
use Rattle.std.proofs.lemmas.Map.Iter.{rest_more}
use Rattle.std.specs.Ordering.{nat_cmp}
use Rattle.std.specs.Cmp.Lexicographic.{slice_cmp, nat_list_cmp_total}
use Rattle.storage_model.specs.Records.{SlotEntry}
use Rattle.ordered_tables.specs.Seen.{shown}
use Rattle.record_state.specs.Sweep.{emptied_at}
use Rattle.ordered_tables.proofs.Trees.{found_all, keys-shown}
use Rattle.record_state.proofs.Sweeps.{slots_swept, key_left_out}
use Rattle.record_state.proofs.expired.due_keys.Goals as goal

pub loop-key-init : goal.loop-key-init
loop-key-init c =
    let all = ap entries (sym c.table.ensures) ∙ c.tree-key-items.ensures.entries ∙ ap (shown (λ k. k.items)) (sym c.into_iter-key-iterator.ensures.into_iter_gives.0) in
    record {
      empties = ap (λ ks. fold (emptied_at c.args.now) c.args.slots.now (ks ++ map (λ e. e.0.items) c.into_iter-key-iterator.result)) c.new-keys.ensures
          ∙ ap (fold (emptied_at c.args.now) c.args.slots.now) (sym (ap (map (λ e. e.0)) all ∙ keys-shown (λ k. k.items) c.into_iter-key-iterator.result))
          ∙ slots_swept c.args.now c.args.slots.now;
      there = found_all (slice_cmp nat_cmp) nat_list_cmp_total (λ k. k.items) c.args.slots.now c.into_iter-key-iterator.result (sym all);
    }

pub loop-key-preserved : goal.loop-key-preserved
loop-key-preserved c =
    let more = rest_more deref_pair c.loop-key.key-iterator c.next.new.self c.next.result (c.in-Some.key, c.in-Some.slot) c.in-Some.is c.next.ensures.steps in
    let there = subst (λ (es : List (Vec ℕ Global × SlotEntry)). AllByRecursion (λ e. get c.args.slots.now e.0.items ≡ Some e.1) es) more c.loop-key.invariant.there in
    record {
      empties = sym (key_left_out c.args.now c.args.slots.now c.loop-key.keys c.in-Some.key.now.items (map (λ e. e.0.items) c.next.new.self) c.in-Some.slot.now there.0 (sym c.if-is_due.false ∙ c.is_due.ensures))
          ∙ ap (λ s. fold (emptied_at c.args.now) c.args.slots.now (c.loop-key.keys ++ map (λ e. e.0.items) s)) (sym more)
          ∙ c.loop-key.invariant.empties;
      there = there.1;
    }
