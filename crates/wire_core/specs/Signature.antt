-- Signatures: their spelling, and how they are read (RFC 6940, 6.3.4).
use Rattle.std.specs.Prelude.{ℕ, ◌<◌, ◌^◌, ◌==◌, List, [], ◌∷◌, ◌++◌, length, if◌then◌else◌}
use Rattle.wire_core.specs.declared.bad.Reason.TheVariants.{BadValue}
use Rattle.wire_core.specs.declared.signature.Signature.{Signature}
use Rattle.wire_core.specs.declared.signature.SignerIdentity.{SignerIdentity}
use Rattle.wire_core.specs.declared.signature.SignerIdentity.TheVariants as signers
use Rattle.wire_core.specs.Spelling.{AreBytes, number, vector, joined}
use Rattle.wire_core.specs.Reading.{Reader, ◌>>=◌, ◌>>◌, done, refused, place_at, rest_at, number_at, vector_at}

-- a hash behind the number of its algorithm, in a part of its own
abbrev pub hash_part : ℕ → List ℕ → List ℕ
hash_part alg hash = vector 2 (number 1 alg ++ vector 1 hash)

-- an identity's bytes
unfoldable pub identity : SignerIdentity → List ℕ
identity (signers.CertHash alg hash) = number 1 1 ++ hash_part alg hash
identity (signers.CertHashNodeId alg hash) = number 1 2 ++ hash_part alg hash
identity signers.None = number 1 3 ++ vector 2 []

-- a signature's bytes
unfoldable pub signature : Signature → List ℕ
signature s = joined (number 1 s.hash ∷ number 1 s.algorithm ∷ identity s.identity
    ∷ vector 2 s.value ∷ [])

-- A hash has at most 255 bytes.
abbrev pub IsSpelledIdentity : SignerIdentity → Type 0
IsSpelledIdentity (signers.CertHash alg hash) = length hash < 2 ^ 8
IsSpelledIdentity (signers.CertHashNodeId alg hash) = length hash < 2 ^ 8
IsSpelledIdentity signers.None = Unit {0}

-- Its identity has a spelling, and its value at most 65,535 bytes.
abbrev pub IsSpelledSignature : Signature → Type 0
IsSpelledSignature s = IsSpelledIdentity s.identity × (length s.value < 2 ^ 16)

-- each number fits its field
abbrev pub IsIdentityInRange : SignerIdentity → Type 0
IsIdentityInRange (signers.CertHash alg hash) = (alg < 2 ^ 8) × AreBytes hash
IsIdentityInRange (signers.CertHashNodeId alg hash) = (alg < 2 ^ 8) × AreBytes hash
IsIdentityInRange signers.None = Unit {0}

-- each number fits its field
pub record IsSignatureInRange (s : Signature) : Type 0 where
  pub hash : s.hash < 2 ^ 8
  pub algorithm : s.algorithm < 2 ^ 8
  pub identity : IsIdentityInRange s.identity
  pub value : AreBytes s.value

-- the algorithm's number, and the hash
unfoldable pub hash_at : Reader (ℕ × List ℕ)
hash_at = do
  alg ← number_at 1
  hash ← vector_at 1 rest_at
  done (alg, hash)

-- the hash of a certificate, behind its type
unfoldable pub cert_hash_at : Reader SignerIdentity
cert_hash_at = do
  parts ← vector_at 2 hash_at
  done (signers.CertHash parts.0 parts.1)

-- the hash of a certificate and a Node-ID, behind its type
unfoldable pub cert_hash_node_id_at : Reader SignerIdentity
cert_hash_node_id_at = do
  parts ← vector_at 2 hash_at
  done (signers.CertHashNodeId parts.0 parts.1)

-- nobody, behind its type: an empty part
unfoldable pub no_identity_at : Reader SignerIdentity
no_identity_at = do
  vector_at 2 (done tt)
  done signers.None

-- what follows an identity's first byte, which stands at a place
unfoldable pub identity_of : ℕ → ℕ → Reader SignerIdentity
identity_of place code =
    if code == 1 then cert_hash_at
    else (if code == 2 then cert_hash_node_id_at
    else (if code == 3 then no_identity_at
    else refused place BadValue))

-- an identity; any other first byte than 1, 2 or 3 is a bad value
unfoldable pub identity_at : Reader SignerIdentity
identity_at = do
  place ← place_at
  code ← number_at 1
  identity_of place code

-- a signature
unfoldable pub signature_at : Reader Signature
signature_at = do
  hash ← number_at 1
  algorithm ← number_at 1
  signer ← identity_at
  value ← vector_at 2 rest_at
  done (record { hash = hash; algorithm = algorithm; identity = signer; value = value })
