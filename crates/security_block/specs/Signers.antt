-- Whom a certificate may be about, and who signed.
use Rattle.std.specs.Prelude.{ℕ, ◌≤◌, ◌==◌, ◌&&◌, Bool, List, [], ◌∷◌, length, Option, find}
use Rattle.std.specs.Option.{option_and_then}
use Rattle.security_block.specs.declared.about.About.{About}
use Rattle.security_block.specs.declared.about.TheConstants.{MAX_USER}
use Rattle.security_block.specs.declared.signer.TheConstants.{SIGNING}
use Rattle.security_block.specs.declared.certificate.Certificate.{Certificate}

-- The user's name has a byte at least, and at most so many (this profile).
abbrev pub IsNamed : About → Type 0
IsNamed who = (1 ≤ length who.user) × (length who.user ≤ MAX_USER)

-- the first certificate that nodes sign with with which the signature verifies
unfoldable pub first_verifying : (List ℕ → Bool) → List Certificate → Option Certificate
first_verifying verifies cs = find (λ c. (c.code == SIGNING) && verifies c.body) cs

-- whom that certificate is about
unfoldable pub signer_among : (List ℕ → Bool) → (List ℕ → Option About) → List Certificate
    → Option About
signer_among verifies about cs = option_and_then (λ c. about c.body) (first_verifying verifies cs)

-- one such certificate, and no other
unfoldable pub alone : List ℕ → List Certificate
alone certificate = record { code = SIGNING; body = certificate } ∷ []
