use Rattle.std.proofs.Common.{refl, ap}
use Rattle.std.proofs.lemmas.Result.{err_from_is_err_and}
use Rattle.reload_base.specs.Outside.{AirView}
use Rattle.node_messages.specs.Signed.{SignerWords, words_of}
use Rattle.scenario_run.specs.Runs.{first_of}
use Rattle.scenario_run.specs.Outcomes.{Outlets}
use Rattle.overlay_world.specs.Standings.{world_in}
use Rattle.scenario_run.proofs.Ends.{bytes_hold}
use Rattle.scenario_run.proofs.Declared.{are_declared}
use Rattle.scenario_run.proofs.Loops.{breaks_echo, breaks_world, starts, in_time, goes_on, breaks_in, breaks_lines, ended, breaks_last, completes}
use Rattle.scenario_run.proofs.run.run_scenario.Goals as goal

pub returns-in_err-write_echo : goal.returns-in_err-write_echo
returns-in_err-write_echo g c =
    let p = err_from_is_err_and c.from_residual.result c.from_residual.ensures.1 in
    let words : SignerWords = words_of g.G.Signer.certificate_of g.G.Signer.signature_of g.G.Signer.about_of g.G.Signer.verifies c.args.signer.now in
    let before : Outlets = record { sink = g.K.Sink.view c.args.sink.now; air = g.A.Air.view c.args.air.now } in
    let after : Outlets = record { sink = g.K.Sink.view c.write_echo.new.sink; air = g.A.Air.view c.args.air.now } in
    rw (p.1, p.2) (breaks_echo words c.args.traced c.args.scenario.now before after c.in_err-write_echo.field-0.0 c.requires.scenario c.requires.empty refl c.in_err-write_echo.ensures)

pub new-requires : goal.new-requires
new-requires g c = are_declared c.args.scenario.now c.requires.scenario

pub returns-in_err-world : goal.returns-in_err-world
returns-in_err-world g c =
    let p = err_from_is_err_and c.from_residual-in_err-world.result c.from_residual-in_err-world.ensures.1 in
    let words : SignerWords = words_of g.G.Signer.certificate_of g.G.Signer.signature_of g.G.Signer.about_of g.G.Signer.verifies c.args.signer.now in
    let before : Outlets = record { sink = g.K.Sink.view c.args.sink.now; air = g.A.Air.view c.args.air.now } in
    let after : Outlets = record { sink = g.K.Sink.view c.write_echo.new.sink; air = g.A.Air.view c.args.air.now } in
    rw (p.1, p.2) (breaks_world words c.args.traced c.args.scenario.now before after c.requires.scenario c.requires.empty refl c.in_ok-write_echo.ensures)

pub loop-event-init : goal.loop-event-init
loop-event-init g c =
    let words : SignerWords = words_of g.G.Signer.certificate_of g.G.Signer.signature_of g.G.Signer.about_of g.G.Signer.verifies c.args.signer.now in
    let before : Outlets = record { sink = g.K.Sink.view c.args.sink.now; air = g.A.Air.view c.args.air.now } in
    let after : Outlets = record { sink = g.K.Sink.view c.write_echo.new.sink; air = g.A.Air.view c.args.air.now } in
    starts words c.args.traced c.args.scenario.now c.as_slice-event-items.result.now (world_in c.in_ok-world.world (g.A.Air.view c.args.air.now)) before after (unfold first_of in c.in_ok-world.ensures (g.A.Air.view c.args.air.now)) c.requires.empty refl c.in_ok-write_echo.ensures

pub returns-in_err-piece : goal.returns-in_err-piece
returns-in_err-piece g c =
    let p = err_from_is_err_and c.from_residual-in_err-piece.result c.from_residual-in_err-piece.ensures.1 in
    let words : SignerWords = words_of g.G.Signer.certificate_of g.G.Signer.signature_of g.G.Signer.about_of g.G.Signer.verifies c.args.signer.now in
    let before : Outlets = record { sink = g.K.Sink.view c.args.sink.now; air = g.A.Air.view c.args.air.now } in
    let mid : Outlets = record { sink = g.K.Sink.view c.loop-event.sink; air = g.A.Air.view c.loop-event.air } in
    let after : Outlets = record { sink = g.K.Sink.view c.loop-event.sink; air = g.A.Air.view c.event_piece.new.air } in
    rw (p.1, p.2) (breaks_in words c.args.traced c.args.scenario.now c.as_slice-event-items.result.now c.loop-event.event-index c.event-item.result (world_in c.loop-event.world (g.A.Air.view c.loop-event.air)) before mid after c.in_err-piece.field-0.0
    c.requires.scenario c.as_slice-event-items.ensures c.loop-event-test.true c.event-item.is c.loop-event.invariant c.in_err-piece.ensures.stopped refl)

pub returns-in_err-write_all : goal.returns-in_err-write_all
returns-in_err-write_all g c =
    let p = err_from_is_err_and c.from_residual-in_err-write_all.result c.from_residual-in_err-write_all.ensures.1 in
    let words : SignerWords = words_of g.G.Signer.certificate_of g.G.Signer.signature_of g.G.Signer.about_of g.G.Signer.verifies c.args.signer.now in
    let before : Outlets = record { sink = g.K.Sink.view c.args.sink.now; air = g.A.Air.view c.args.air.now } in
    let mid : Outlets = record { sink = g.K.Sink.view c.loop-event.sink; air = g.A.Air.view c.loop-event.air } in
    let after : Outlets = record { sink = g.K.Sink.view c.write_all.new.sink; air = g.A.Air.view c.event_piece.new.air } in
    let bytes = bytes_hold c.event_piece.new.world (g.A.Air.view c.event_piece.new.air) c.frames-frames.ensures.bytes in
    let stops = rw (c.as_slice.ensures, c.in_ok-piece.ensures.piece) at c.in_err-write_all.ensures in
    rw (p.1, p.2) (breaks_lines words c.args.traced c.args.scenario.now c.as_slice-event-items.result.now c.loop-event.event-index c.event-item.result (world_in c.loop-event.world (g.A.Air.view c.loop-event.air)) (world_in c.event_piece.new.world (g.A.Air.view c.event_piece.new.air)) before mid after c.in_err-write_all.field-0.0
    c.requires.scenario c.as_slice-event-items.ensures c.loop-event-test.true c.event-item.is c.loop-event.invariant c.in_ok-piece.ensures.world c.in_ok-piece.ensures.air bytes stops)

pub loop-event-preserved : goal.loop-event-preserved
loop-event-preserved g c =
    let words : SignerWords = words_of g.G.Signer.certificate_of g.G.Signer.signature_of g.G.Signer.about_of g.G.Signer.verifies c.args.signer.now in
    let before : Outlets = record { sink = g.K.Sink.view c.args.sink.now; air = g.A.Air.view c.args.air.now } in
    let mid : Outlets = record { sink = g.K.Sink.view c.loop-event.sink; air = g.A.Air.view c.loop-event.air } in
    let after : Outlets = record { sink = g.K.Sink.view c.write_all.new.sink; air = g.A.Air.view c.event_piece.new.air } in
    let bytes = bytes_hold c.event_piece.new.world (g.A.Air.view c.event_piece.new.air) c.frames-frames.ensures.bytes in
    let adds = rw (c.as_slice.ensures, c.in_ok-piece.ensures.piece) at c.in_ok-write_all.ensures in
    goes_on words c.args.traced c.args.scenario.now c.as_slice-event-items.result.now c.loop-event.event-index c.event-item.result (world_in c.loop-event.world (g.A.Air.view c.loop-event.air)) (world_in c.event_piece.new.world (g.A.Air.view c.event_piece.new.air)) before mid after
    c.requires.scenario c.as_slice-event-items.ensures c.loop-event-test.true c.event-item.is c.loop-event.invariant c.in_ok-piece.ensures.world c.in_ok-piece.ensures.air c.in_ok-piece.ensures.room bytes adds

pub event_piece-requires-clause-clock : goal.event_piece-requires-clause-clock
event_piece-requires-clause-clock g c =
    let words : SignerWords = words_of g.G.Signer.certificate_of g.G.Signer.signature_of g.G.Signer.about_of g.G.Signer.verifies c.args.signer.now in
    let before : Outlets = record { sink = g.K.Sink.view c.args.sink.now; air = g.A.Air.view c.args.air.now } in
    let mid : Outlets = record { sink = g.K.Sink.view c.loop-event.sink; air = g.A.Air.view c.loop-event.air } in
    in_time words c.args.traced c.args.scenario.now c.as_slice-event-items.result.now c.loop-event.event-index c.event-item.result (world_in c.loop-event.world (g.A.Air.view c.loop-event.air)) before mid
    c.requires.scenario c.requires.few c.as_slice-event-items.ensures c.loop-event-test.true c.event-item.is c.loop-event.invariant

pub event_piece-requires-clause-air : goal.event_piece-requires-clause-air
event_piece-requires-clause-air g c = ap (λ (a : AirView). a.sent) c.loop-event.invariant.sends

pub event_piece-requires-clause-room : goal.event_piece-requires-clause-room
event_piece-requires-clause-room g c = c.loop-event.invariant.room

pub write_end-requires : goal.write_end-requires
write_end-requires g c = ap (λ (a : AirView). a.sent) c.loop-event.invariant.sends

pub returns-in_err-write_end : goal.returns-in_err-write_end
returns-in_err-write_end g c =
    let p = err_from_is_err_and c.from_residual-in_err-write_end.result c.from_residual-in_err-write_end.ensures.1 in
    let words : SignerWords = words_of g.G.Signer.certificate_of g.G.Signer.signature_of g.G.Signer.about_of g.G.Signer.verifies c.args.signer.now in
    let before : Outlets = record { sink = g.K.Sink.view c.args.sink.now; air = g.A.Air.view c.args.air.now } in
    let mid : Outlets = record { sink = g.K.Sink.view c.loop-event.sink; air = g.A.Air.view c.loop-event.air } in
    let after : Outlets = record { sink = g.K.Sink.view c.write_end.new.sink; air = g.A.Air.view c.loop-event.air } in
    let whole = ended words c.args.traced c.args.scenario.now c.as_slice-event-items.result.now c.loop-event.event-index (world_in c.loop-event.world (g.A.Air.view c.loop-event.air)) before mid c.requires.scenario c.as_slice-event-items.ensures c.loop-event-test.false c.loop-event.invariant in
    rw (p.1, p.2) (breaks_last words c.args.traced c.args.scenario.now (world_in c.loop-event.world (g.A.Air.view c.loop-event.air)) before mid after c.in_err-write_end.field-0.0 whole refl c.in_err-write_end.ensures)

pub returns : goal.returns
returns g c =
    let words : SignerWords = words_of g.G.Signer.certificate_of g.G.Signer.signature_of g.G.Signer.about_of g.G.Signer.verifies c.args.signer.now in
    let before : Outlets = record { sink = g.K.Sink.view c.args.sink.now; air = g.A.Air.view c.args.air.now } in
    let mid : Outlets = record { sink = g.K.Sink.view c.loop-event.sink; air = g.A.Air.view c.loop-event.air } in
    let after : Outlets = record { sink = g.K.Sink.view c.write_end.new.sink; air = g.A.Air.view c.loop-event.air } in
    let whole = ended words c.args.traced c.args.scenario.now c.as_slice-event-items.result.now c.loop-event.event-index (world_in c.loop-event.world (g.A.Air.view c.loop-event.air)) before mid c.requires.scenario c.as_slice-event-items.ensures c.loop-event-test.false c.loop-event.invariant in
    completes words c.args.traced c.args.scenario.now (world_in c.loop-event.world (g.A.Air.view c.loop-event.air)) before mid after whole refl c.in_ok-write_end.ensures
