use Rattle.std.proofs.Common.{arith}
use Rattle.frame_listing.proofs.front.put_payload.Goals as goal

pub overflow_add-result-in-Err-Bad : goal.overflow_add-result-in-Err-Bad
overflow_add-result-in-Err-Bad c =
    let within = c.put_message.ensures.within c.in-Err-Bad.bad (rw c.in-Err-Bad.field-0-is at c.in-Err-Bad.is) in
    omega (arith, within, c.requires.small)
