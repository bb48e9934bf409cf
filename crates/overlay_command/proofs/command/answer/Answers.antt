use Rattle.std.proofs.Common.{refl}
use Rattle.node_messages.specs.Signed.{words_of}
use Rattle.scenario_run.specs.Outcomes.{Outlets}
use Rattle.overlay_command.proofs.Told.{listing_told}
use Rattle.overlay_command.proofs.command.answer.Goals as goal

pub returns-in-Show : goal.returns-in-Show
returns-in-Show g c =
    let words = words_of g.G.Signer.certificate_of g.G.Signer.signature_of g.G.Signer.about_of g.G.Signer.verifies c.args.signer.now in
    let before : Outlets = record { sink = g.K.Sink.view c.args.sink.now; air = g.A.Air.view c.args.air.now } in
    let after : Outlets = record { sink = g.K.Sink.view c.show.new.sink; air = g.A.Air.view c.args.air.now } in
    rw c.in-Show.is (listing_told words c.args.input before after c.show.result (rw c.as_slice.ensures at c.show.ensures) refl)
