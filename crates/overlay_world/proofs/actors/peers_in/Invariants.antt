use Rattle.std.proofs.Common.{◌≡◌, take}
use Rattle.chord_tables.specs.Tables.{ids}
use Rattle.run_model.specs.Worlds.{peers_in}
use Rattle.overlay_world.proofs.actors.peers_in.Given as goal

abbrev pub invariant-loop-name : goal.invariant-loop-name
invariant-loop-name l = ids l.peers ≡ peers_in (take l.name-index l.names)
