use Rattle.std.proofs.Common.{◌≤◌, ◌^◌, ℕ, ap, sym, ◌∙◌, arith}
use Rattle.ordered_tables.specs.Seen.{shown}
use Rattle.record_state.proofs.SlotMaps.{sooner-all}
use Rattle.record_state.proofs.slots.first_expiry.Goals as goal

at_most : (n : ℕ) → n ≤ 18446744073709551615 → n ≤ 2 ^ 64
at_most n le = omega (arith, le)

pub loop-slot-init : goal.loop-slot-init
loop-slot-init c n le all =
    sooner-all n c.args.table.now c.into_iter-slot-iterator.result
    (c.tree-slot-items.ensures.entries ∙ ap (shown (λ k. k.items)) (sym c.into_iter-slot-iterator.ensures.into_iter_gives.0))
    (at_most n le) all
