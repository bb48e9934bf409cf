use Rattle.std.proofs.Common.{◌++◌, length, refl, ap, ◌∙◌, arith}
use Rattle.reload_base.specs.Outside.{AirView}
use Rattle.run_text.specs.Lines.{frame_at}
use Rattle.run_text.proofs.FrameLines.{AreBegun-start, AreBegun-more, AreBegun-end}
use Rattle.run_text.proofs.frames.put_all_frames.Goals as goal

pub frames-init : goal.frames-init
frames-init g c = record {
  lines = AreBegun-start c.args.out.now c.args.from (g.A.Air.view c.args.air.now).sent;
  same = refl;
}

pub frames-preserved : goal.frames-preserved
frames-preserved g c = record {
  lines = AreBegun-more c.args.out.now c.frames.out c.put_frame_at.new.out c.args.from c.frames.at (g.A.Air.view c.args.air.now).sent c.frames.invariant.lines
      (c.in_ok-put_frame_at.ensures.line ∙ ap (λ (a : AirView). c.frames.out ++ frame_at c.frames.at a.sent) c.frames.invariant.same);
  same = c.in_ok-put_frame_at.ensures.same ∙ c.frames.invariant.same;
}

pub returns-clause-lines : goal.returns-clause-lines
returns-clause-lines g c =
    let count = ap (λ (a : AirView). length a.sent) c.frames.invariant.same in
    AreBegun-end c.args.out.now c.frames.out c.args.from c.frames.at (g.A.Air.view c.args.air.now).sent c.frames.invariant.lines (omega (arith, c.frames-test.false, c.frames-in-frames.ensures.value, count))
