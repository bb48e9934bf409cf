use Rattle.std.proofs.Common.{refl}
use Rattle.link_framing.proofs.reader.FrameReader.take_front.Goals as goal

pub returns-in-Err : goal.returns-in-Err
returns-in-Err c = (c.lasting.ensures c.args.self.now.left.place _ (rw (c.place.ensures.value, c.held.ensures) at c.in-Err.ensures.found), refl)
