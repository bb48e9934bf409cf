use Rattle.std.proofs.Common.{ap, sym, ◌∙◌}
use Rattle.std.proofs.lemmas.Result.{err_from_is_err_and}
use Rattle.reload_base.specs.Outside.{AirView}
use Rattle.node_messages.specs.Signed.{words_of}
use Rattle.run_model.specs.Worlds.{World}
use Rattle.run_model.specs.Moves.{moved}
use Rattle.scenario_moves.specs.Moves.{move_of}
use Rattle.overlay_world.specs.Standings.{world_in}
use Rattle.scenario_run.specs.Runs.{event_of}
use Rattle.scenario_run.proofs.Ends.{counts_are, piece_is}
use Rattle.scenario_run.proofs.Stops.{lines_stop}
use Rattle.scenario_run.proofs.piece.event_piece.Goals as goal

pub returns-in_err-put_traced-clause-stopped : goal.returns-in_err-put_traced-clause-stopped
returns-in_err-put_traced-clause-stopped g c =
    let p = err_from_is_err_and c.from_residual-in_err-put_traced.result c.from_residual-in_err-put_traced.ensures.1 in
    let words = (words_of g.G.Signer.certificate_of g.G.Signer.signature_of g.G.Signer.about_of g.G.Signer.verifies c.args.signer.now) in
    let w : World = world_in c.args.world.now (g.A.Air.view c.args.air.now) in
    let does = rw c.in_ok-what.ensures at c.in_ok-step.ensures in
    rw (p.1, p.2) (lines_stop words w (event_of c.args.event.now) (g.A.Air.view c.args.air.now) (g.A.Air.view c.step.new.air) (g.A.Air.view c.put_traced.new.air) c.in_err-put_traced.field-0.0 does.sent c.in_err-put_traced.ensures.untold)

pub returns-clause-piece : goal.returns-clause-piece
returns-clause-piece g c =
    let words = (words_of g.G.Signer.certificate_of g.G.Signer.signature_of g.G.Signer.about_of g.G.Signer.verifies c.args.signer.now) in
    let w : World = world_in c.args.world.now (g.A.Air.view c.args.air.now) in
    let d = moved words c.args.event.now.line (move_of c.args.event.now.what) w in
    let does = rw c.in_ok-what.ensures at c.in_ok-step.ensures in
    piece_is c.args.traced w d c.new-piece.result c.step.new.out c.put_traced.new.out c.sent-sent.result (g.A.Air.view c.step.new.air).sent c.new-piece.ensures does.told c.in_ok-put_traced.ensures.text
    (c.sent-sent.ensures ∙ sym (counts_are c.args.world.now (g.A.Air.view c.args.air.now))) (ap (λ (a : AirView). a.sent) does.sent)

pub step-requires-clause-sound : goal.step-requires-clause-sound
step-requires-clause-sound g c = record { held = c.requires.air; room = c.requires.room }
