-- The stand-in meets the law of a signer: its certificates are read as they are spelled, and its
-- signatures verify.
use Rattle.std.proofs.Common.{◌≡◌, ℕ, ◌+◌, ◌-◌, ◌^◌, ◌<◌, true, List, ◌++◌, length, Some, refl, length-append, arith}
use Rattle.std.specs.Str.{bytes_eq}
use Rattle.std.proofs.lemmas.List.{take_at, drop_at}
use Rattle.std.proofs.lemmas.Slice.Eq.{bytes_eq-Decides}
use Rattle.sha2.specs.Sha256.{sha256}
use Rattle.sha2.proofs.Facts256.{length-sha256}
use Rattle.wire_core.proofs.Decoders.{whole_again}
use Rattle.security_block.specs.declared.about.About.{About}
use Rattle.security_block.specs.Signers.{IsNamed}
use Rattle.security_block.specs.Laws.Claims.{and_true, IsClaim, claim_laid}
use Rattle.security_block.specs.StandIn.{claim, tag_of, certificate_for, claimed, about_by, identity_by, value_by, signature_by, identifies, is_signature_by, verifies_by}

claimed-claim : (who : About) → IsClaim who → claimed (claim who) ≡ Some who
unfolding claimed
claimed-claim who fits = rw (whole_again claim_laid (claim who) who fits refl) refl

-- ---- certificates

length-tag_of : (said : List ℕ) → length (tag_of said) ≡ 32
unfolding tag_of
length-tag_of said = length-sha256 _

bytes_eq-same : (bytes : List ℕ) → bytes_eq bytes bytes ≡ true
bytes_eq-same bytes = (bytes_eq-Decides bytes bytes).1 refl

-- a certificate for someone is about that one
pub about_by-certificate_for : (who : About) → IsNamed who → who.node.0 < 2 ^ 128
    → about_by (certificate_for who) ≡ Some who
unfolding about_by certificate_for
about_by-certificate_for who named node =
    let n : length (claim who) ≡ length (claim who ++ tag_of (claim who)) - 32 =
    omega (arith, length-append (claim who) (tag_of (claim who)), length-tag_of (claim who)) in
    rw (
      ← n,
      take_at (claim who) (tag_of (claim who)) (length (claim who)) refl,
      drop_at (claim who)
          (tag_of (claim who)) (length (claim who)) refl,
      bytes_eq-same,
    )
    (claimed-claim who (named, node))

-- the signature that a certificate makes is the one that it makes
pub is_signature_by-own : (certificate bytes : List ℕ) → is_signature_by certificate bytes
    (signature_by certificate bytes) ≡ true
unfolding is_signature_by signature_by identifies identity_by
is_signature_by-own certificate bytes = and_true (bytes_eq-same (sha256 certificate))
    (bytes_eq-same (value_by certificate bytes))

-- its own signatures verify
pub verifies_by-own : (who : About) (bytes : List ℕ) → IsNamed who → who.node.0 < 2 ^ 128
    → verifies_by (certificate_for who) bytes (signature_by (certificate_for who) bytes) ≡ true
unfolding verifies_by
verifies_by-own who bytes named node = rw (about_by-certificate_for who named node)
    (is_signature_by-own (certificate_for who) bytes)
