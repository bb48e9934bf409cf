use Rattle.node_messages.specs.Signed.{signed}
use Rattle.node_messages.proofs.Makers.{made_read}
use Rattle.node_messages.proofs.laws.what_is_made_is_read_as_its_makers.Goals as goal

pub returns : goal.returns
returns g c = λ config signer who h said bytes named node r in_range belongs e.
    made_read config _ who h said bytes r in_range belongs (g.met.G.Signer.own_verifies signer who (signed h said) named node) (g.met.G.Signer.is_about signer who named node) e
