use Rattle.std.proofs.Common.{sym}
use Rattle.std.proofs.lemmas.List.Kept.{IsNonDecreasingBy-filter}
use Rattle.replica_sets.specs.Refills.{owns, refilled_to}
use Rattle.replica_sets.proofs.Lists.{strictly_rising, front_rising, back_rising, flat_map_step}
use Rattle.replica_sets.proofs.Queued.{mirror_refilled}
use Rattle.replica_sets.proofs.refill.Goals as goal

pub owned-requires : goal.owned-requires
owned-requires c = strictly_rising (λ r. r.0) _ c.requires

pub refill_mirror-requires : goal.refill_mirror-requires
refill_mirror-requires c =
    front_rising (λ r. r.0) _ _ _ (sym c.owned.ensures)
    (IsNonDecreasingBy-filter (λ r. r.0) (owns c.args.after.now) _
    (strictly_rising (λ r. r.0) _ c.requires))

pub refill_mirror-requires-in-loop-mirror : goal.refill_mirror-requires-in-loop-mirror
refill_mirror-requires-in-loop-mirror c =
    back_rising (λ r. r.0) _ _ _ (sym c.owned.ensures)
    (IsNonDecreasingBy-filter (λ r. r.0) (owns c.args.after.now) _
    (strictly_rising (λ r. r.0) _ c.requires))

pub loop-mirror-preserved : goal.loop-mirror-preserved
loop-mirror-preserved c =
    let before = c.args.before.now in
    let after = c.args.after.now in
    let held = c.args.held.now in
    flat_map_step (refilled_to before after held) _ _ _ _ _ c.loop-mirror-test.true
    c.loop-mirror.invariant
    (mirror_refilled before after _ held _ _ _ _ _ c.owned.ensures
    c.in_ok-refill_mirror.ensures c.in_ok-refill_mirror-2.ensures)
