use Rattle.message_bodies.proofs.MessageLaw.{one_message}
use Rattle.message_bodies.proofs.messages.one_spelling.Goals as goal

pub returns : goal.returns
returns c = one_message
