use Rattle.std.proofs.Common.{◌≡◌, ℕ, List, ◌++◌, ◌+◌, drop, ap, sym, subst, ◌∙◌, arith}
use Rattle.std.specs.Prelude.{map, fold, Some}
use Rattle.std.specs.List.{AllByRecursion}
use Rattle.std.specs.FinMap.{entries, get}
use Rattle.std.specs.Ordering.{nat_cmp}
use Rattle.std.specs.Cmp.{nat_cmp_total}
use Rattle.storage_model.specs.Records.{KindEntry}
use Rattle.record_state.specs.Sweep.{swept_on}
use Rattle.ordered_tables.proofs.Trees.{found_all, same_shown}
use Rattle.record_state.proofs.KindMaps.{id_small}
use Rattle.record_state.proofs.PutKinds.{tail_of}
use Rattle.record_state.proofs.Sweeps.{all_swept_by}
use Rattle.record_state.proofs.expired.due_kinds.Goals as goal

pub loop-id-init : goal.loop-id-init
loop-id-init c =
    let all = ap entries (sym c.table.ensures.kinds) ∙ c.rows-id-items.ensures.entries in
    record {
      sweeps = ap (λ ks. fold (swept_on c.args.now) c.args.kinds.now (ks ++ map (λ (e : ℕ × KindEntry). e.0) c.rows-id-items.result.now)) c.new-ids.ensures
          ∙ ap (λ (es : List (ℕ × KindEntry)). fold (swept_on c.args.now) c.args.kinds.now (map (λ e. e.0) es)) (sym all)
          ∙ all_swept_by c.args.now c.args.kinds.now;
      there = found_all nat_cmp nat_cmp_total (λ k. k) c.args.kinds.now c.rows-id-items.result.now (same_shown c.rows-id-items.result.now ∙ sym all);
    }

pub overflow_cast-id : goal.overflow_cast-id
overflow_cast-id c =
    let more = tail_of c.rows-id-items.result.now c.loop-id.id-index c.loop-id-item.result c.loop-id-test.true c.loop-id-item.is in
    let there = subst (λ (es : List (ℕ × KindEntry)). AllByRecursion (λ e. get c.args.kinds.now e.0 ≡ Some e.1) es) more c.loop-id.invariant.there in
    omega (arith, id_small c.args.kinds.now c.loop-id-item.result.0 c.loop-id-item.result.1 c.table.ensures.ids there.0)

pub loop-id-preserved : goal.loop-id-preserved
loop-id-preserved c =
    let more = tail_of c.rows-id-items.result.now c.loop-id.id-index c.loop-id-item.result c.loop-id-test.true c.loop-id-item.is in
    let there = subst (λ (es : List (ℕ × KindEntry)). AllByRecursion (λ e. get c.args.kinds.now e.0 ≡ Some e.1) es) more c.loop-id.invariant.there in
    let rest = map (λ (e : ℕ × KindEntry). e.0) (drop (c.loop-id.id-index + 1) c.rows-id-items.result.now) in
    record {
      sweeps = c.in_ok-note_due.ensures c.args.kinds.now rest there.0
          ∙ ap (λ s. fold (swept_on c.args.now) c.args.kinds.now (c.loop-id.ids ++ map (λ e. e.0) s)) (sym more)
          ∙ c.loop-id.invariant.sweeps;
      there = there.1;
    }
