use Rattle.std.proofs.Common.{arith}
use Rattle.frame_listing.proofs.Frames.{payload_length}
use Rattle.frame_listing.proofs.front.put_frame.Goals as goal

pub put_payload-requires-clause-small : goal.put_payload-requires-clause-small
put_payload-requires-clause-small c =
    let small = rw c.in-Payload.is at c.requires.small in
    omega (arith, small, payload_length c.in-Payload.sequence c.in-Payload.message.now)
