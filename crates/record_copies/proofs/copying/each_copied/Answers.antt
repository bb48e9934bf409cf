use Rattle.std.proofs.Common.{◌≡◌, ℕ, List, ◌++◌, ap, sym, subst, ◌∙◌, arith}
use Rattle.std.specs.Prelude.{map, Some}
use Rattle.std.specs.List.{AllByRecursion}
use Rattle.std.specs.FinMap.{entries, get}
use Rattle.std.specs.Ordering.{nat_cmp}
use Rattle.std.specs.Cmp.{nat_cmp_total}
use Rattle.data_models.specs.declared.fetched.StoreKind.{StoreKind}
use Rattle.storage_model.specs.Records.{KindEntry}
use Rattle.node_model.specs.Copies.{kind_copied}
use Rattle.ordered_tables.proofs.Trees.{found_all, same_shown}
use Rattle.record_state.proofs.KindMaps.{id_small}
use Rattle.record_state.proofs.PutKinds.{tail_of}
use Rattle.record_copies.proofs.copying.each_copied.Goals as goal

pub loop-id-init : goal.loop-id-init
loop-id-init c =
    let all = ap entries (sym c.table.ensures.kinds) ∙ c.rows-id-items.ensures.entries in
    record {
      so_far = ap (λ (rs : List StoreKind). rs ++ map (kind_copied c.args.config.now c.args.now) c.rows-id-items.result.now) c.new-copies.ensures
          ∙ ap (map (kind_copied c.args.config.now c.args.now)) (sym all);
      there = found_all nat_cmp nat_cmp_total (λ k. k) c.args.kinds.now c.rows-id-items.result.now (same_shown c.rows-id-items.result.now ∙ sym all);
    }

pub overflow_cast-id : goal.overflow_cast-id
overflow_cast-id c =
    let more = tail_of c.rows-id-items.result.now c.loop-id.id-index c.loop-id-item.result c.loop-id-test.true c.loop-id-item.is in
    let there = subst (λ (es : List (ℕ × KindEntry)). AllByRecursion (λ e. get c.args.kinds.now e.0 ≡ Some e.1) es) more c.loop-id.invariant.there in
    omega (arith, id_small c.args.kinds.now c.loop-id-item.result.0 c.loop-id-item.result.1 c.table.ensures.ids there.0)
