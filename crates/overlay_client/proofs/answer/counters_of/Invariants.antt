use Rattle.std.proofs.Common.{◌≡◌, take}
use Rattle.node_model.specs.Clients.{counters_of}
use Rattle.overlay_client.proofs.answer.counters_of.Given as goal

abbrev pub invariant-loop-r : goal.invariant-loop-r
invariant-loop-r l = l.counters ≡ counters_of (take l.r-index l.r-items)
