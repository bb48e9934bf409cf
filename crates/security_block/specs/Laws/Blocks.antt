-- Certificates and security blocks are read as they are spelled.
use Rattle.std.proofs.Common.{◌≡◌, ℕ, ◌<◌, List, [], ◌∷◌, ◌++◌, length, All, refl, length-append, arith}
use Rattle.std.specs.List.{flat_map}
use Rattle.wire_core.specs.Layout.{IsLayout}
use Rattle.wire_core.specs.Laws.Bytes.{length-number}
use Rattle.wire_core.specs.Laws.Lists.{vector_of}
use Rattle.wire_core.specs.Laws.Signatures.{signature_laid}
use Rattle.wire_core.specs.Laws.Steps.{Always, laid, known, seq, done_laid, fits_as}
use Rattle.wire_core.specs.Laws.Words.{number_laid, vector_laid, rest_laid}
use Rattle.security_block.specs.declared.certificate.Certificate.{Certificate}
use Rattle.security_block.specs.declared.block.SecurityBlock.{SecurityBlock}
use Rattle.security_block.specs.Block.{certificate, block, IsSpelledCertificate, IsSpelledBlock, IsCertificateInRange, IsBlockInRange, certificate_at, block_at}

same_certificate : (c d : Certificate) → c.code ≡ d.code → c.body ≡ d.body → c ≡ d
same_certificate c d e f = λ i. record { code = e i; body = f i }

pub certificate_laid : IsLayout (λ c. IsSpelledCertificate c × IsCertificateInRange c) certificate
    certificate_at
unfolding certificate certificate_at
certificate_laid = laid
    (λ n. fits_as _ (seq {n = n} {Known = Always} (λ c. c.code) (number_laid 1)
    (λ code _. seq (λ c. c.body) (vector_laid 2 rest_laid) (λ body _.
    done_laid (record { code = code; body = body }) (refl, (refl, tt))
    (λ c k. same_certificate c _ k.1.0 k.0))))
    (λ c k f. (f.1.0.0, record { code = f.0; body = f.1.0.1 }))
    (λ c k f. (f.1.code, ((f.0, f.1.body), tt))))

-- it has a byte at least
pub certificate-some : (c : Certificate) → 0 < length (certificate c)
unfolding certificate
certificate-some c = omega (arith, length-number 1 c.code, length-append {A = ℕ})

same_block : (b c : SecurityBlock) → b.certificates ≡ c.certificates → b.signature ≡ c.signature
    → b ≡ c
same_block b c e f = λ i. record { certificates = e i; signature = f i }

pub block_laid : IsLayout (λ b. IsSpelledBlock b × IsBlockInRange b) block block_at
unfolding block block_at
block_laid = laid (λ n. fits_as _ (seq {n = n} {Known = Always} (λ b. b.certificates)
    (vector_of 2 certificate_laid (λ c f. certificate-some c))
    (λ cs _. seq (λ b. b.signature) (known signature_laid) (λ s _.
    done_laid (record { certificates = cs; signature = s }) (refl, (refl, tt))
    (λ b k. same_block b _ k.1.0 k.0))))
    (λ b k f. (
      record { each = f.0.1.0; fits = f.0.0; signature = f.1.0.0 },
      record { certificates = f.0.1.1; signature = f.1.0.1 },
    ))
    (λ b k f. ((f.0.fits, (f.0.each, f.1.certificates)), ((f.0.signature, f.1.signature), tt))))

-- it has a byte at least
pub block-some : (b : SecurityBlock) → 0 < length (block b)
unfolding block
block-some b = omega (
  arith,
  length-number 2 (length (flat_map certificate b.certificates)),
  length-append {A = ℕ},
)
