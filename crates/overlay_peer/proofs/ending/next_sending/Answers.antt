use Rattle.std.proofs.Common.{sym, ap, ◌∙◌}
use Rattle.std.specs.Option.{option_copied}
use Rattle.std.specs.FinMap.{get}
use Rattle.overlay_peer.proofs.Queues.{next_small}
use Rattle.overlay_peer.proofs.ending.next_sending.Goals as goal

pub returns-in-Some-clause-fits : goal.returns-in-Some-clause-fits
returns-in-Some-clause-fits c =
    next_small 0 (get c.args.table.now.outboxes c.args.to.0) c.in-Some.bytes.now (λ o at. c.requires.queued c.args.to.0 o at)
    (ap option_copied (sym c.in-Some.is) ∙ c.next.ensures 0)
