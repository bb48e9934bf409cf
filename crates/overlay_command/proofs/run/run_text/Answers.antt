use Rattle.std.proofs.Common.{refl}
use Rattle.node_messages.specs.Signed.{words_of}
use Rattle.scenario_run.specs.Outcomes.{Outlets}
use Rattle.overlay_command.proofs.Told.{run_done, fault_told, bad_told}
use Rattle.overlay_command.proofs.run.run_text.Goals as goal

pub returns-in-Ok-run_scenario : goal.returns-in-Ok-run_scenario
returns-in-Ok-run_scenario g c =
    let words = words_of g.G.Signer.certificate_of g.G.Signer.signature_of g.G.Signer.about_of g.G.Signer.verifies c.args.signer.now in
    let before : Outlets = record { sink = g.K.Sink.view c.args.sink.now; air = g.A.Air.view c.args.air.now } in
    let after : Outlets = record { sink = g.K.Sink.view c.run_scenario.new.sink; air = g.A.Air.view c.run_scenario.new.air } in
    run_done words c.args.traced c.args.text c.in-Ok.scenario before after (rw c.as_slice.ensures at c.in-Ok.ensures.found) c.in-Ok-run_scenario.ensures

pub returns-in-Ok : goal.returns-in-Ok
returns-in-Ok g c =
    let words = words_of g.G.Signer.certificate_of g.G.Signer.signature_of g.G.Signer.about_of g.G.Signer.verifies c.args.signer.now in
    let before : Outlets = record { sink = g.K.Sink.view c.args.sink.now; air = g.A.Air.view c.args.air.now } in
    let so_far : Outlets = record { sink = g.K.Sink.view c.run_scenario.new.sink; air = g.A.Air.view c.run_scenario.new.air } in
    let after : Outlets = record { sink = g.K.Sink.view c.tell_fault.new.sink; air = g.A.Air.view c.run_scenario.new.air } in
    fault_told words c.args.traced c.args.text c.in-Ok.scenario c.in-Err.fault before so_far after c.tell_fault.result (rw c.as_slice.ensures at c.in-Ok.ensures.found) c.in-Err.ensures c.tell_fault.ensures refl

pub returns-in-Err-BadLine : goal.returns-in-Err-BadLine
returns-in-Err-BadLine g c =
    let words = words_of g.G.Signer.certificate_of g.G.Signer.signature_of g.G.Signer.about_of g.G.Signer.verifies c.args.signer.now in
    let before : Outlets = record { sink = g.K.Sink.view c.args.sink.now; air = g.A.Air.view c.args.air.now } in
    let after : Outlets = record { sink = g.K.Sink.view c.tell_bad_line.new.sink; air = g.A.Air.view c.args.air.now } in
    let first = rw (c.in-Err-BadLine.field-0-is, c.as_slice.ensures) at c.in-Err-BadLine.ensures.first_bad in
    bad_told words c.args.traced c.args.text c.in-Err-BadLine.n before after c.tell_bad_line.result first c.tell_bad_line.ensures refl
