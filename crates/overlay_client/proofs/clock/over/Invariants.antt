use Rattle.std.proofs.Common.{◌≡◌, ◌++◌, Some, drop}
use Rattle.node_model.specs.declared.limits.TheConstants.{MAX_SENDS}
use Rattle.node_model.specs.Clocks.{ids_over}
use Rattle.overlay_client.proofs.clock.over.Given as goal

-- those so far, and those of the rest, are all
abbrev pub invariant-loop-spot : goal.invariant-loop-spot
invariant-loop-spot l =
    l.ids ++ ids_over (Some MAX_SENDS) l.table (drop l.spot-index l.spots)
    ≡ ids_over (Some MAX_SENDS) l.table l.spots
