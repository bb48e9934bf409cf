-- What a message's signature is over, and whose it is (RFC 6940, 6.3.4).
use Rattle.std.specs.Prelude.{ℕ, Bool, List, [], ◌∷◌, Option}
use Rattle.wire_core.specs.declared.signature.Signature.{Signature}
use Rattle.wire_core.specs.Spelling.{number, joined}
use Rattle.security_block.specs.declared.about.About.{About}
use Rattle.security_block.specs.declared.block.SecurityBlock.{SecurityBlock}
use Rattle.security_block.specs.Signers.{signer_among}
use Rattle.forwarding_header.specs.declared.header.Header.{Header}
use Rattle.message_bodies.specs.declared.contents.Contents.{Contents}
use Rattle.message_bodies.specs.Contents.{contents}

-- The four functions of a signer: the certificate of a node and its user, the signature of a
-- certificate over bytes, whom a certificate is about, and whether a signature verifies.
pub record SignerWords : Type 0 where
  pub certificate_of : About → List ℕ
  pub signature_of : List ℕ → List ℕ → Signature
  pub about_of : List ℕ → Option About
  pub verifies : List ℕ → List ℕ → Signature → Bool

-- the functions of one signer
abbrev pub words_of : {S : Type 0} → (S → About → List ℕ) → (S → List ℕ → List ℕ → Signature)
    → (S → List ℕ → Option About) → (S → List ℕ → List ℕ → Signature → Bool) → S → SignerWords
words_of certificate_of signature_of about_of verifies signer = record {
  certificate_of = certificate_of signer;
  signature_of = signature_of signer;
  about_of = about_of signer;
  verifies = verifies signer;
}

-- what is signed of a message, up to the SignerIdentity: its overlay, its transaction, its contents
unfoldable pub signed : Header → Contents → List ℕ
signed h c = joined (number 4 h.overlay ∷ number 8 h.id ∷ contents c ∷ [])

-- who signed bytes with a security block
unfoldable pub signer_by : SignerWords → List ℕ → SecurityBlock → Option About
signer_by words bytes b =
    signer_among (λ certificate. words.verifies certificate bytes b.signature)
    words.about_of b.certificates
