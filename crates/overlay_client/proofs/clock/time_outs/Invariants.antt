use Rattle.std.proofs.Common.{◌≡◌, map, take}
use Rattle.node_model.specs.declared.notice.Notice.TheVariants.{TimedOut}
use Rattle.overlay_client.proofs.clock.time_outs.Given as goal

abbrev pub invariant-loop-id : goal.invariant-loop-id
invariant-loop-id l = l.notices ≡ map TimedOut (take l.id-index l.ids)
