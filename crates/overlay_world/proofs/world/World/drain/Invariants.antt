use Rattle.node_messages.specs.Signed.{words_of}
use Rattle.run_model.specs.Moves.{drained}
use Rattle.overlay_world.specs.Standings.{world_in}
use Rattle.overlay_world.specs.Parts.{scene_of, Does}
use Rattle.overlay_world.proofs.world.World.drain.Given as goal

-- so many were delivered
abbrev pub invariant-deliveries : goal.invariant-deliveries
invariant-deliveries g l =
    Does (drained (words_of g.G.Signer.certificate_of g.G.Signer.signature_of g.G.Signer.about_of g.G.Signer.verifies l.signer) l.counter (world_in l.fn.self (g.A.Air.view l.fn.air)))
    (scene_of l.fn.self (g.A.Air.view l.fn.air) l.fn.out) (scene_of l.self (g.A.Air.view l.air) l.out)
