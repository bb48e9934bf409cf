use Rattle.std.proofs.Common.{arith, subst, Result}
use Rattle.wire_core.specs.declared.bad.DecodeFault.{DecodeFault}
use Rattle.frame_listing.specs.Messages.{message_listing}
use Rattle.frame_listing.specs.Fronts.{Lists}
use Rattle.frame_listing.proofs.Wholes.{fault_within}
use Rattle.frame_listing.proofs.message.put_message.Goals as goal

pub returns-clause-within : goal.returns-clause-within
returns-clause-within c bad e =
    let listed = subst (λ (r : Result _ DecodeFault). Lists r (message_listing c.args.message.now) c.args.out.now c.put_parts.new.out) e c.put_parts.ensures in
    fault_within c.args.message.now bad (λ i. omega (arith, c.type_inv.message i)) listed.0
