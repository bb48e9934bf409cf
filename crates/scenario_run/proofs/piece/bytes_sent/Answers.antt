use Rattle.std.proofs.Common.{◌∙◌}
use Rattle.overlay_world.specs.Standings.{world_in}
use Rattle.scenario_run.proofs.Ends.{sizes_are}
use Rattle.scenario_run.proofs.piece.bytes_sent.Goals as goal

pub returns : goal.returns
returns g c = c.size.ensures ∙ sizes_are (g.A.Air.view c.args.air.now).sent (world_in c.args.world.now (g.A.Air.view c.args.air.now)) c.requires
