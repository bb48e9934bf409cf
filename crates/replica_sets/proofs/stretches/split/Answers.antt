use Rattle.std.proofs.Common.{rules, ◌≡◌, ◌<◌, ◌^◌, leb, leb-true, leb-false, arith, true, false}
use Rattle.std.proofs.lemmas.List.Sorted.{IsPartitionPoint-from_clause, IsPartitionedBy-leb}
use Rattle.std.proofs.lemmas.List.Elements.{All-drop}
use Rattle.replica_sets.proofs.Lists.{front_all, back_all, below_greatest}
use Rattle.replica_sets.proofs.stretches.split.Goals as goal

pub returns-in-Some-clause-until : goal.returns-in-Some-clause-until
returns-in-Some-clause-until c =
    let parted = IsPartitionedBy-leb (λ r. r.0) _ c.args.place c.requires in
    let found = c.partition_point.ensures in
    let point =
    IsPartitionPoint-from_clause (λ r. leb r.0 c.args.place) _ _ found.partitioned parted
    (λ a r q k. search rules) in
    let front = front_all (λ r. leb r.0 c.args.place ≡ true) _ _ found.bound point.0 in
    rw c.split_at.ensures.front (λ k d lt. leb-true _ _ (front k d lt))

pub returns-in-Some-clause-above : goal.returns-in-Some-clause-above
returns-in-Some-clause-above c =
    let fits : c.in-Some.greatest < 2 ^ 128 = omega arith in
    let held = c.args.held.now in
    let up = c.in-Some.ensures in
    let below = below_greatest (λ r. r.0) held c.in-Some.greatest (2 ^ 128) c.requires up fits in
    let parted = IsPartitionedBy-leb (λ r. r.0) _ c.args.place c.requires in
    let found = c.partition_point.ensures in
    let point =
    IsPartitionPoint-from_clause (λ r. leb r.0 c.args.place) _ _ found.partitioned parted
    (λ a r q k. search rules) in
    let back = back_all (λ r. leb r.0 c.args.place ≡ false) _ _ found.bound point.1 in
    let small = All-drop (λ r. r.0 < 2 ^ 128) _ _ below in
    rw c.split_at.ensures.back (λ k d lt. (leb-false _ _ (back k d lt), small k d lt))
