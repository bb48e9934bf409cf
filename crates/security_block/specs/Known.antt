-- What is known of a certificate.
use Rattle.std.specs.Prelude.{◌≡◌, ℕ, List, ◌++◌, Some}
use Rattle.sha2.specs.Sha256.{sha256}
use Rattle.sha2.specs.Hashers.{Holds256}
use Rattle.security_block.specs.declared.about.About.{About}
use Rattle.security_block.specs.declared.known.Keys.{Keys}
use Rattle.security_block.specs.Signers.{IsNamed}
use Rattle.security_block.specs.StandIn.{key_text, certificate_for, about_by}

-- These bytes are about someone, and the certificate that is made for that one.
abbrev pub IsCertificateOf : List ℕ → About → Type 0
IsCertificateOf certificate who = IsNamed who × (certificate ≡ certificate_for who)
    × (about_by certificate ≡ Some who)

-- what the signatures of a certificate are made with: its hash, and a hasher that holds the text and
-- the certificate with which the value of each begins
abbrev pub AreKeysOf : List ℕ → Keys → Type 0
AreKeysOf certificate keys = (keys.fingerprint ≡ sha256 certificate)
    × Holds256 keys.front (key_text ++ certificate)
