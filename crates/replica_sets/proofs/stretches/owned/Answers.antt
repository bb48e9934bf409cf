use Rattle.std.proofs.Common.{sym}
use Rattle.std.proofs.lemmas.List.{append-nil}
use Rattle.replica_sets.specs.Refills.{owns}
use Rattle.replica_sets.proofs.Lists.{filter_all, filter_none}
use Rattle.replica_sets.proofs.Owned.{owns-none, owns-all}
use Rattle.replica_sets.proofs.stretches.owned.Goals as goal

pub returns-then-not-range : goal.returns-then-not-range
returns-then-not-range c =
    sym (filter_none (owns c.args.range.now) _ (λ k d lt. owns-none _ _ c.if-not-range.true))

pub returns-in-None : goal.returns-in-None
returns-in-None c =
    rw append-nil
    (sym (filter_all (owns c.args.range.now) _
    (λ k d lt. owns-all _ _ c.if-not-range.false c.in-None.is)))
