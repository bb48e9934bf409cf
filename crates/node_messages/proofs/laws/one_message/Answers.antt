use Rattle.std.proofs.Common.{length}
use Rattle.node_messages.specs.Signed.{signed}
use Rattle.node_messages.proofs.Makers.{made_read, read_as_one}
use Rattle.node_messages.proofs.laws.one_message.Goals as goal

pub returns : goal.returns
returns g c = λ config signer who other h k said told bytes named named' node node' r r' fit fit' e f.
    let one = made_read config _ who h said bytes r fit.0 fit.1 (g.met.G.Signer.own_verifies signer who (signed h said) named node) (g.met.G.Signer.is_about signer who named node) e in
    let two = made_read config _ other k told bytes r' fit'.0 fit'.1 (g.met.G.Signer.own_verifies signer other (signed k told) named' node') (g.met.G.Signer.is_about signer other named' node') f in
    read_as_one _ (length bytes) who other h k said told _ _ one two
