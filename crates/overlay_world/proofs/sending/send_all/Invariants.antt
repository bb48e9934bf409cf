use Rattle.std.proofs.Common.{◌≡◌, ◌≤◌, ◌++◌}
use Rattle.reload_base.specs.Outside.{size_of}
use Rattle.run_model.specs.declared.limits.TheConstants.{MAX_AIR}
use Rattle.overlay_world.specs.Sendings.{sent_by, waiting_for, with_frames}
use Rattle.overlay_world.proofs.sending.send_all.Given as goal

-- those so far were sent
abbrev pub invariant-loop-frame : goal.invariant-loop-frame
invariant-loop-frame g l = record {
  fates : l.fates ≡ l.fn.fates ++ waiting_for l.yielded;
  air : g.A.Air.view l.air ≡ with_frames (g.A.Air.view l.fn.air) (sent_by l.names l.from l.yielded);
  room : size_of (g.A.Air.view l.air).sent ≤ MAX_AIR;
}
