use Rattle.forwarding_header.proofs.Messages.{one_message}
use Rattle.forwarding_header.proofs.decode.one_form.Goals as goal

pub returns : goal.returns
returns c = one_message
