use Rattle.link_framing.proofs.Taken.{found_only}
use Rattle.link_framing.proofs.front.first_frame.Goals as goal

pub returns-clause-only : goal.returns-clause-only
returns-clause-only c = found_only c.frame_in.result c.args.place c.args.bytes.now c.frame_in.ensures
