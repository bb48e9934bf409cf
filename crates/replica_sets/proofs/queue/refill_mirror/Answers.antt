use Rattle.std.proofs.Common.{◌≡◌, ◌∙◌, sym, true}
use Rattle.replica_sets.specs.Refills.{is_mirror}
use Rattle.replica_sets.proofs.Queued.{lacking_new, lacking_old, queued_twice}
use Rattle.replica_sets.proofs.queue.refill_mirror.Goals as goal

pub returns-then-not-is_mirror : goal.returns-then-not-is_mirror
returns-then-not-is_mirror c =
    rw (lacking_new c.args.before.now c.args.mirror c.args.resources.now
    (sym c.is_mirror.ensures ∙ c.if-not-is_mirror.true)) c.queue.ensures

pub returns : goal.returns
returns c =
    let is : is_mirror c.args.before.now c.args.mirror ≡ true =
    sym c.is_mirror.ensures ∙ c.if-not-is_mirror.false in
    let old = c.args.queued.now in
    let next = c.queue-2.new.queued in
    let low = c.in_ok-queue.ensures in
    rw (lacking_old c.args.before.now c.args.mirror c.args.resources.now is)
    (rw (queued_twice old next c.args.mirror _ _ _ low c.unowned.ensures) c.queue-3.ensures)
