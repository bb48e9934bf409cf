-- A signature that verifies with the one certificate there is.
use Rattle.std.proofs.Common.{◌≡◌, ℕ, Bool, true, List, Option, refl}
use Rattle.security_block.specs.declared.about.About.{About}
use Rattle.security_block.specs.Signers.{first_verifying, signer_among, alone}

pub signer_among-alone : (verifies : List ℕ → Bool) (about : List ℕ → Option About) (certificate : List ℕ) → verifies certificate ≡ true → signer_among verifies about (alone certificate) ≡ about certificate
unfolding signer_among first_verifying alone
signer_among-alone verifies about certificate e = rw e refl
