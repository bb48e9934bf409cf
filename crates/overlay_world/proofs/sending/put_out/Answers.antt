use Rattle.std.proofs.lemmas.Result.{err_from_is_err_and}
use Rattle.overlay_world.specs.Sendings.{sent_by}
use Rattle.overlay_world.proofs.Sent.{after_halts}
use Rattle.overlay_world.proofs.sending.put_out.Goals as goal

pub returns-in_err-tell-clause-stopped : goal.returns-in_err-tell-clause-stopped
returns-in_err-tell-clause-stopped g c =
    let p = err_from_is_err_and c.from_residual-in_err-tell.result c.from_residual-in_err-tell.ensures.1 in
    rw p.1 (after_halts (sent_by c.args.names.now c.args.number c.args.outputs.frames) (g.A.Air.view c.args.air.now) (g.A.Air.view c.send_all.new.air) p.0 c.in_ok-send_all.ensures.sent p.2)
