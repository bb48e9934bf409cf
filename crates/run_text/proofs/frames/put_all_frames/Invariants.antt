use Rattle.std.proofs.Common.{◌≡◌, ◌-◌, length}
use Rattle.run_text.proofs.FrameLines.{AreBegun}
use Rattle.run_text.proofs.frames.put_all_frames.Given as goal

abbrev pub invariant-frames : goal.invariant-frames
invariant-frames g l = record {
  lines : AreBegun l.fn.out l.out l.from l.at (g.A.Air.view l.fn.air).sent;
  same : g.A.Air.view l.air ≡ g.A.Air.view l.fn.air;
}

abbrev pub decreases-frames : goal.decreases-frames
decreases-frames g l = length (g.A.Air.view l.fn.air).sent - l.at
