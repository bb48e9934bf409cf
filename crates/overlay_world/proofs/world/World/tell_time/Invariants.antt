use Rattle.std.proofs.Common.{take}
use Rattle.node_messages.specs.Signed.{words_of}
use Rattle.run_model.specs.Worlds.{told_time}
use Rattle.overlay_world.specs.Standings.{world_in}
use Rattle.overlay_world.specs.Parts.{scene_of, Does}
use Rattle.overlay_world.proofs.world.World.tell_time.Given as goal

-- those so far were told
abbrev pub invariant-nodes : goal.invariant-nodes
invariant-nodes g l =
    Does (told_time (words_of g.G.Signer.certificate_of g.G.Signer.signature_of g.G.Signer.about_of g.G.Signer.verifies l.signer) (take l.number-index l.numbers) (world_in l.fn.self (g.A.Air.view l.fn.air)))
    (scene_of l.fn.self (g.A.Air.view l.fn.air) l.fn.out) (scene_of l.self (g.A.Air.view l.air) l.out)
