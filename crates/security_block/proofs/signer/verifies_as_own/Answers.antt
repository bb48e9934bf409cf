use Rattle.std.proofs.Common.{◌∙◌}
use Rattle.security_block.proofs.OwnSignature.{signer_among-alone}
use Rattle.security_block.proofs.signer.verifies_as_own.Goals as goal

pub returns : goal.returns
returns g c = λ signer who bytes named node. signer_among-alone _ _ _ (g.met.G.Signer.own_verifies signer who bytes named node) ∙ g.met.G.Signer.is_about signer who named node
