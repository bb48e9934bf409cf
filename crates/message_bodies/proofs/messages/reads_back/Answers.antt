use Rattle.message_bodies.proofs.MessageLaw.{message_again}
use Rattle.message_bodies.proofs.messages.reads_back.Goals as goal

pub returns : goal.returns
returns c = message_again
