use Rattle.std.proofs.Common.{rules, arith}
use Rattle.std.proofs.lemmas.List.Sorted.{IsPartitionPoint-from_clause}
use Rattle.due_list.proofs.Vectors.{earlier, parted, ranked}
use Rattle.due_list.proofs.timers.rank.Goals as goal

pub returns-clause-order : goal.returns-clause-order
returns-clause-order c =
    let t = c.args.timer in
    let ts = c.args.timers.now in
    let point = IsPartitionPoint-from_clause (earlier t) ts _ c.partition_point.ensures.partitioned (parted t ts c.requires) (λ a r q k. search rules) in
    ranked t ts _ c.partition_point.ensures.bound (λ k h. point.0 k t (omega arith) h) (λ h. point.1 _ t (omega arith) h)
