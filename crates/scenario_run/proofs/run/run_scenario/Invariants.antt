use Rattle.node_messages.specs.Signed.{words_of}
use Rattle.overlay_world.specs.Standings.{world_in}
use Rattle.scenario_run.proofs.Loops.{At}
use Rattle.scenario_run.proofs.run.run_scenario.Given as goal

abbrev pub invariant-loop-event : goal.invariant-loop-event
invariant-loop-event g l =
    let words = words_of g.G.Signer.certificate_of g.G.Signer.signature_of g.G.Signer.about_of g.G.Signer.verifies l.signer in
    At words l.traced l.scenario l.event-items l.event-index (world_in l.world (g.A.Air.view l.air)) (record { sink = g.K.Sink.view l.fn.sink; air = g.A.Air.view l.fn.air }) (record { sink = g.K.Sink.view l.sink; air = g.A.Air.view l.air })
