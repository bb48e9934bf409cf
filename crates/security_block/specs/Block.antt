-- Certificates and security blocks: their spelling, and how they are read (RFC 6940, 6.3.4).
use Rattle.std.specs.Prelude.{ℕ, ◌<◌, ◌^◌, List, [], ◌∷◌, length, All}
use Rattle.std.specs.List.{flat_map}
use Rattle.wire_core.specs.Spelling.{AreBytes, number, vector, joined}
use Rattle.wire_core.specs.Reading.{Reader, ◌>>=◌, done, rest_at, number_at, vector_at, list_at}
use Rattle.wire_core.specs.Signature.{signature, signature_at, IsSpelledSignature, IsSignatureInRange}
use Rattle.security_block.specs.declared.certificate.Certificate.{Certificate}
use Rattle.security_block.specs.declared.block.SecurityBlock.{SecurityBlock}

-- a certificate's bytes
unfoldable pub certificate : Certificate → List ℕ
certificate c = joined (number 1 c.code ∷ vector 2 c.body ∷ [])

-- the bytes of a list of certificates
abbrev pub certificates : List Certificate → List ℕ
certificates cs = flat_map certificate cs

-- a security block's bytes
unfoldable pub block : SecurityBlock → List ℕ
block b = joined (vector 2 (certificates b.certificates) ∷ signature b.signature ∷ [])

-- A certificate's body has at most 65,535 bytes.
abbrev pub IsSpelledCertificate : Certificate → Type 0
IsSpelledCertificate c = length c.body < 2 ^ 16

-- Each certificate fits its length, all of them fit theirs, and the signature has a spelling.
pub record IsSpelledBlock (b : SecurityBlock) : Type 0 where
  pub each : All IsSpelledCertificate b.certificates
  pub fits : length (certificates b.certificates) < 2 ^ 16
  pub signature : IsSpelledSignature b.signature

-- each number fits its field
pub record IsCertificateInRange (c : Certificate) : Type 0 where
  pub code : c.code < 2 ^ 8
  pub body : AreBytes c.body

-- each number fits its field
pub record IsBlockInRange (b : SecurityBlock) : Type 0 where
  pub certificates : All IsCertificateInRange b.certificates
  pub signature : IsSignatureInRange b.signature

-- a certificate
unfoldable pub certificate_at : Reader Certificate
certificate_at = do
  code ← number_at 1
  body ← vector_at 2 rest_at
  done (record { code = code; body = body })

-- a security block
unfoldable pub block_at : Reader SecurityBlock
block_at = do
  cs ← vector_at 2 (list_at certificate_at)
  s ← signature_at
  done (record { certificates = cs; signature = s })
