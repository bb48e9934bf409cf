use Rattle.std.proofs.Common.{arith}
use Rattle.std.proofs.lemmas.List.{append-nil}
use Rattle.replica_sets.proofs.Lists.{front_rising, back_rising}
use Rattle.replica_sets.proofs.Parts.{whole_arc, rising_arc, wrapping_arc}
use Rattle.replica_sets.proofs.stretches.behind.Goals as goal

pub split-requires-then-from-to-2 : goal.split-requires-then-from-to-2
split-requires-then-from-to-2 c = front_rising (λ r. r.0) _ _ _ c.split.ensures.whole c.requires

pub split-requires-else-from-to-2 : goal.split-requires-else-from-to-2
split-requires-else-from-to-2 c = back_rising (λ r. r.0) _ _ _ c.split.ensures.whole c.requires

pub returns-then-from-to : goal.returns-then-from-to
returns-then-from-to c = rw append-nil (whole_arc (λ r. r.0) _ _ _ c.if-from-to.true)

pub returns-then-from-to-2 : goal.returns-then-from-to-2
returns-then-from-to-2 c =
    let first = c.split.ensures in
    let second = c.split-then-from-to-2.ensures in
    rw append-nil (rising_arc (λ r. r.0) _ _ _ _ _ _ _ c.if-from-to-2.true (omega arith)
    first.whole second.whole second.until first.until second.above first.above)

pub returns-else-from-to-2 : goal.returns-else-from-to-2
returns-else-from-to-2 c =
    let first = c.split.ensures in
    let second = c.split-else-from-to-2.ensures in
    wrapping_arc (λ r. r.0) _ _ _ _ _ _ _ (omega arith) (omega arith)
    first.whole second.whole first.until second.until first.above second.above
