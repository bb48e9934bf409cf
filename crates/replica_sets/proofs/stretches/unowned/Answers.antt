use Rattle.std.proofs.Common.{sym, ap, not}
use Rattle.std.proofs.lemmas.List.{append-nil}
use Rattle.replica_sets.specs.Refills.{owns}
use Rattle.replica_sets.proofs.Lists.{filter_all, filter_none}
use Rattle.replica_sets.proofs.Owned.{owns-none, owns-all}
use Rattle.replica_sets.proofs.stretches.unowned.Goals as goal

pub returns-then-not-range : goal.returns-then-not-range
returns-then-not-range c =
    rw append-nil
    (sym (filter_all (λ r. not (owns c.args.range.now r)) _
    (λ k d lt. ap not (owns-none _ _ c.if-not-range.true))))

pub returns-in-None : goal.returns-in-None
returns-in-None c =
    sym (filter_none (λ r. not (owns c.args.range.now r)) _
    (λ k d lt. ap not (owns-all _ _ c.if-not-range.false c.in-None.is)))
