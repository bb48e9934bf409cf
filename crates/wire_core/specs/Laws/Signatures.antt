-- A signature is read as it is spelled.
use Rattle.std.proofs.Common.{◌≡◌, ℕ, ◌^◌, ◌<◌, ◌≤◌, false, eqb, List, [], ◌++◌, length, refl, sym, ap, subst, length-append, lit<, arith}
use Rattle.std.proofs.lemmas.Bool.{eqb-false}
use Rattle.std.proofs.lemmas.List.{append-nil}
use Rattle.wire_core.specs.Spelling.{AreBytes, number, vector}
use Rattle.wire_core.specs.Reading.{done, vector_at}
use Rattle.wire_core.specs.declared.signature.Signature.{Signature}
use Rattle.wire_core.specs.declared.signature.SignerIdentity.{SignerIdentity}
use Rattle.wire_core.specs.declared.signature.SignerIdentity.TheVariants as signers
use Rattle.wire_core.specs.Signature.{hash_part, identity, signature, IsSpelledIdentity, IsSpelledSignature, IsIdentityInRange, IsSignatureInRange, hash_at, cert_hash_at, cert_hash_node_id_at, no_identity_at, identity_of, identity_at, signature_at}
use Rattle.wire_core.specs.Laws.Bytes.{length-number}
use Rattle.wire_core.specs.Layout.{IsLayout}
use Rattle.wire_core.specs.Laws.Forms.{Takes, Again, HasCode, takes_made, takes_code, takes_none, again_made, forms_laid}
use Rattle.wire_core.specs.Laws.Steps.{Anything, Always, Lays, laid, seq, done_laid, fits_as, spelled_as, at_end, placed}
use Rattle.wire_core.specs.Laws.Words.{number_laid, vector_laid, rest_laid}

abbrev pub IdentityFits : SignerIdentity → Type 0
IdentityFits s = IsSpelledIdentity s × IsIdentityInRange s

-- the first byte
code_of : SignerIdentity → ℕ
code_of s = elim s [
  | signers.CertHash alg hash ↦ 1
  | signers.CertHashNodeId alg hash ↦ 2
  | signers.None ↦ 3
]

-- what is behind it
body : SignerIdentity → List ℕ
body s = elim s [
  | signers.CertHash alg hash ↦ hash_part alg hash
  | signers.CertHashNodeId alg hash ↦ hash_part alg hash
  | signers.None ↦ vector 2 []
]

body-code : (s : SignerIdentity) → number 1 (code_of s) ++ body s ≡ identity s
unfolding identity code_of body
body-code (signers.CertHash alg hash) = refl
body-code (signers.CertHashNodeId alg hash) = refl
body-code signers.None = refl

code_of-lt : (s : SignerIdentity) → code_of s < 256
unfolding code_of
code_of-lt (signers.CertHash alg hash) = lit< tt
code_of-lt (signers.CertHashNodeId alg hash) = lit< tt
code_of-lt signers.None = lit< tt

-- a hash of at most 255 bytes behind its algorithm
abbrev HashFits : ℕ × List ℕ → Type 0
HashFits h = (h.0 < 256) × ((length h.1 < 256) × AreBytes h.1)

abbrev hash_text : ℕ × List ℕ → List ℕ
hash_text h = number 1 h.0 ++ vector 1 h.1

-- a hash's part has room for it
roomy : (h : ℕ × List ℕ) → HashFits h → length (hash_text h) < 256 ^ 2
roomy h f = omega (
  arith,
  f.1.0,
  length-append (number 1 h.0) (vector 1 h.1),
  length-append
      (number 1 (length h.1)) h.1,
  length-number 1 h.0,
  length-number 1 (length h.1),
)

same_signature : (s t : Signature) → s.hash ≡ t.hash → s.algorithm ≡ t.algorithm
    → s.identity ≡ t.identity → s.value ≡ t.value → s ≡ t
same_signature s t e f g h = λ i. record {
  hash = e i;
  algorithm = f i;
  identity = g i;
  value =
      h i;
}

abbrev pub SignatureFits : Signature → Type 0
SignatureFits s = IsSpelledSignature s × IsSignatureInRange s

-- it has a byte at least
pub signature-some : (s : Signature) → 0 < length (signature s)
unfolding signature
signature-some s = omega (arith, length-number 1 s.hash, length-append {A = ℕ})

module _ {n : ℕ} where
  hash_laid : Lays n Anything Always HashFits hash_text hash_at
  unfolding hash_at
  hash_laid =
      fits_as _ (spelled_as hash_text (seq {Known = Always} (λ h. h.0) (number_laid 1)
      (λ alg _. seq (λ h. h.1) (vector_laid 1 rest_laid) (λ hash _.
      done_laid (alg, hash) (refl, (refl, tt)) (λ h k. λ i. (k.1.0 i, k.0 i)))))
      (λ h k f. ap (λ t. number 1 h.0 ++ t) (append-nil (vector 1 h.1))))
      (λ h k f. (f.0, f.1.0)) (λ h k f. (f.0, (f.1, tt)))

  -- the same in a part of its own
  part_laid : Lays n Anything Always (λ h. (length (hash_text h) < 256 ^ 2) × HashFits h)
      (λ h. vector 2 (hash_text h)) (vector_at 2 hash_at)
  part_laid = vector_laid 2 (at_end hash_laid)

  -- nothing in a part of its own
  empty_laid : Lays n Anything Always Always (λ _. vector 2 []) (vector_at 2 (done (tt {0})))
  empty_laid = fits_as _ (vector_laid {s = λ _. []} 2 (done_laid (tt {0}) tt (λ z k. refl)))
      (λ s k f. tt) (λ s k f. (lit< tt, tt))

  -- what is read under each code
  forms_take : (place : ℕ) → place ≤ n → (code : ℕ) → code < 256
      → Takes n (HasCode code_of code) IdentityFits body (identity_of place code)
  unfolding identity_of cert_hash_at cert_hash_node_id_at no_identity_at code_of body
  forms_take place le code lt =
      takes_code 1 (takes_made (λ h. signers.CertHash h.0 h.1) part_laid
      (λ h f. ((refl, tt), (f.1.1.0, (f.1.0, f.1.1.1)), refl))) (
      takes_code 2 (takes_made (λ h. signers.CertHashNodeId h.0 h.1) part_laid
      (λ h f. ((refl, tt), (f.1.1.0, (f.1.0, f.1.1.1)), refl))) (
      takes_code 3 (takes_made (λ _. signers.None) empty_laid (λ _ f. ((refl, tt), (tt, tt), refl)))
      (
      takes_none le)))

  -- and what is spelled is read under its code
  forms_again : (place : ℕ) (s : SignerIdentity) → IdentityFits s → Again n Anything s (body s)
      (identity_of place (code_of s))
  unfolding identity_of cert_hash_at cert_hash_node_id_at no_identity_at code_of body
  forms_again place (signers.CertHash alg hash) f = let h : HashFits (alg, hash) =
      (f.1.0, (f.0, f.1.1)) in again_made (λ h. signers.CertHash h.0 h.1) part_laid (alg, hash)
      (roomy (alg, hash) h, h)
  forms_again place (signers.CertHashNodeId alg hash) f = let h : HashFits (alg, hash) =
      (f.1.0, (f.0, f.1.1)) in again_made (λ h. signers.CertHashNodeId h.0 h.1) part_laid
      (alg, hash) (roomy (alg, hash) h, h)
  forms_again place signers.None f = again_made (λ _. signers.None) empty_laid tt tt

  identity_lays : Lays n Anything Always IdentityFits identity identity_at
  unfolding identity_at
  identity_lays =
      let law = placed (λ place le. seq {Known = Always} code_of (number_laid 1)
      (λ code lt. forms_laid (forms_take place le) (forms_again place) code lt)) in
      spelled_as identity (fits_as IdentityFits law (λ s k f. f.1) (λ s k f. (code_of-lt s, f)))
      (λ s k f. body-code s)

  signature_lays : Lays n Anything Always SignatureFits signature signature_at
  unfolding signature signature_at
  signature_lays =
      fits_as _ (seq {Known = Always} (λ s. s.hash) (number_laid 1)
      (λ hash _. seq (λ s. s.algorithm) (number_laid 1) (λ algorithm _.
      seq (λ s. s.identity) identity_lays (λ signer _. seq (λ s. s.value) (vector_laid 2 rest_laid)
      (λ value _.
      done_laid (record { hash = hash; algorithm = algorithm; identity = signer; value = value })
      (refl, (refl, (refl, (refl, tt))))
      (λ s k. same_signature s _ k.1.1.1.0 k.1.1.0 k.1.0 k.0))))))
      (λ s k f. (
        (f.1.1.0.0, f.1.1.1.0.0),
        record {
          hash = f.0;
          algorithm = f.1.0;
          identity =
              f.1.1.0.1;
          value = f.1.1.1.0.1;
        },
      ))
      (λ s k f. (f.1.hash, (f.1.algorithm, ((f.0.0, f.1.identity), ((f.0.1, f.1.value), tt)))))

pub identity_laid : IsLayout IdentityFits identity identity_at
identity_laid = laid (λ n. identity_lays {n = n})

pub signature_laid : IsLayout SignatureFits signature signature_at
signature_laid = laid (λ n. signature_lays {n = n})

-- they have a byte at least
pub identity-some : (s : SignerIdentity) → 0 < length (identity s)
identity-some s = rw (← body-code s)
    (omega (arith, length-number 1 (code_of s), length-append (number 1 (code_of s)) (body s)))
