use Rattle.std.proofs.Common.{length, ap, arith}
use Rattle.std.proofs.lemmas.Result.{IfOk-weaker}
use Rattle.frame_listing.proofs.Frames.{Listed-more, Listed-fault, listed_within, fewer_left}
use Rattle.frame_listing.proofs.listing.list.Goals as goal

pub returns-in-Err-Bad : goal.returns-in-Err-Bad
returns-in-Err-Bad c =
    let added = rw c.in-Err-Bad.field-0-is at c.in-Err-Bad.ensures in
    IfOk-weaker c.ended_by.result _ _ (Listed-fault c.args.stream.now c.frames.rest.now c.frames.text added.0 c.put_front.new.out c.frames.frames c.in-Err-Bad.fault c.frames.invariant added.1 added.2) (rw c.in-Err-Bad.fault-is at c.ended_by.ensures)

pub overflow_add-frames : goal.overflow_add-frames
overflow_add-frames c = omega (arith, c.requires, (listed_within c.args.stream.now c.frames.rest.now c.frames.text c.frames.frames c.frames.invariant).1)

pub frames-smaller : goal.frames-smaller
frames-smaller c =
    let added = c.in-Ok.ensures in
    omega (arith, fewer_left added.0 c.frames.rest.now c.in-Ok.len added.2 added.3, ap length c.split_at.ensures.back)

pub frames-preserved : goal.frames-preserved
frames-preserved c =
    let added = c.in-Ok.ensures in
    rw c.split_at.ensures.back (Listed-more c.args.stream.now c.frames.rest.now c.frames.text c.put_front.new.out c.frames.frames c.in-Ok.len c.frames.invariant added.0 added.1 added.3 added.4)
