use Rattle.std.proofs.Common.{subst, arith}
use Rattle.wire_core.specs.Reading.{Gives}
use Rattle.forwarding_header.specs.Header.{message_at}
use Rattle.forwarding_header.proofs.Messages.{message_again, message_within, is_found}
use Rattle.forwarding_header.proofs.decode.decode_header.Goals as goal

pub returns-clause-found : goal.returns-clause-found
returns-clause-found c = is_found c.args.message.now c.decode.result (λ i. omega (arith, c.type_inv.message i)) c.decode.ensures

pub returns-clause-only : goal.returns-clause-only
returns-clause-only c = λ h m. subst (Gives c.decode.result) (message_again c.args.message.now h m) c.decode.ensures

pub returns-clause-within : goal.returns-clause-within
returns-clause-within c = λ bad e. message_within c.args.message.now bad (λ i. omega (arith, c.type_inv.message i)) (subst (λ r. Gives r (message_at c.args.message.now)) e c.decode.ensures)
