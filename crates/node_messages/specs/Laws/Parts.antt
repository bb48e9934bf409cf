-- It is decided whether headers and security blocks have a spelling, with numbers that fit.
use Rattle.std.proofs.Common.{ℕ, ◌<◌, ◌≤◌, ◌^◌, List, length, All}
use Rattle.std.proofs.Math.Decide.{map_dec, dec_lt, dec_le}
use Rattle.wire_core.specs.declared.signature.Signature.{Signature}
use Rattle.wire_core.specs.declared.signature.SignerIdentity.{SignerIdentity}
use Rattle.wire_core.specs.declared.signature.SignerIdentity.TheVariants as signers
use Rattle.wire_core.specs.Signature.{IsIdentityInRange, IsSignatureInRange}
use Rattle.forwarding_header.specs.declared.header.TheConstants.{MAX_HEADER_LIST}
use Rattle.forwarding_header.specs.declared.header.Header.{Header}
use Rattle.forwarding_header.specs.declared.destination.TheConstants.{MAX_OPAQUE, SHORT}
use Rattle.forwarding_header.specs.declared.destination.Destination.{Destination}
use Rattle.forwarding_header.specs.declared.destination.Destination.TheVariants as destinations
use Rattle.forwarding_header.specs.Destinations as ways
use Rattle.forwarding_header.specs.Options as opts
use Rattle.forwarding_header.specs.Header.{IsSpelledHeader}
use Rattle.security_block.specs.declared.certificate.Certificate.{Certificate}
use Rattle.security_block.specs.declared.block.SecurityBlock.{SecurityBlock}
use Rattle.security_block.specs.Block.{certificates, IsSpelledCertificate, IsCertificateInRange, IsSpelledBlock, IsBlockInRange}
use Rattle.node_messages.specs.Laws.Decided.{both, each, fewer, are_bytes}
use Rattle.node_messages.specs.Laws.Values.{signature_spelled}

-- ---- headers

destination_spelled : (d : Destination) → Dec (ways.IsSpelledDestination d)
destination_spelled (destinations.Node node) = yes tt
destination_spelled (destinations.Resource resource) = yes tt
destination_spelled (destinations.Opaque bytes) = dec_le (length bytes) MAX_OPAQUE
destination_spelled (destinations.Short n) = dec_le SHORT n

pub header_spelled : (h : Header) → Dec (IsSpelledHeader h)
header_spelled h =
    map_dec (λ p. record {
      each_via = p.0;
      each_dest = p.1.0;
      each_option = p.1.1.0;
      via_length = p.1.1.1.0;
      dest_length = p.1.1.1.1.0;
      options_length = p.1.1.1.1.1;
    })
    (λ s. (
      s.each_via,
      (
        s.each_dest,
        (
          s.each_option,
          (
            s.via_length,
            (
              s.dest_length,
              s.options_length,
            ),
          ),
        ),
      ),
    ))
    (both (each ways.IsSpelledDestination destination_spelled h.via)
    (both (each ways.IsSpelledDestination destination_spelled h.dest)
    (both (each opts.IsSpelledOption (λ o. fewer o.value (2 ^ 16)) h.options)
    (both (dec_le (length (ways.destinations h.via)) MAX_HEADER_LIST)
    (both (dec_le (length (ways.destinations h.dest)) MAX_HEADER_LIST)
    (dec_le (length (opts.options h.options)) MAX_HEADER_LIST))))))

-- ---- security blocks

pub block_spelled : (b : SecurityBlock) → Dec (IsSpelledBlock b)
block_spelled b =
    map_dec (λ p. record { each = p.0; fits = p.1.0; signature = p.1.1 })
    (λ s. (s.each, (s.fits, s.signature)))
    (both (each IsSpelledCertificate (λ c. fewer c.body (2 ^ 16)) b.certificates)
    (both (fewer (certificates b.certificates) (2 ^ 16)) (signature_spelled b.signature)))

certificate_in_range : (c : Certificate) → Dec (IsCertificateInRange c)
certificate_in_range c =
    map_dec (λ p. record { code = p.0; body = p.1 }) (λ r. (r.code, r.body))
    (both (dec_lt c.code (2 ^ 8)) (are_bytes c.body))

identity_in_range : (s : SignerIdentity) → Dec (IsIdentityInRange s)
identity_in_range (signers.CertHash alg hash) = both (dec_lt alg (2 ^ 8)) (are_bytes hash)
identity_in_range (signers.CertHashNodeId alg hash) = both (dec_lt alg (2 ^ 8)) (are_bytes hash)
identity_in_range signers.None = yes tt

signature_in_range : (s : Signature) → Dec (IsSignatureInRange s)
signature_in_range s =
    map_dec (λ p. record { hash = p.0; algorithm = p.1.0; identity = p.1.1.0; value = p.1.1.1 })
    (λ r. (r.hash, (r.algorithm, (r.identity, r.value))))
    (both (dec_lt s.hash (2 ^ 8)) (both (dec_lt s.algorithm (2 ^ 8))
    (both (identity_in_range s.identity) (are_bytes s.value))))

pub block_in_range : (b : SecurityBlock) → Dec (IsBlockInRange b)
block_in_range b =
    map_dec (λ p. record { certificates = p.0; signature = p.1 })
    (λ r. (r.certificates, r.signature))
    (both (each IsCertificateInRange certificate_in_range b.certificates)
    (signature_in_range b.signature))
