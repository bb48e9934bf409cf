-- What the stand-in looks at is exact: no other bytes are a certificate, and no other signature verifies.
use Rattle.std.proofs.Common.{◌≡◌, ℕ, ◌-◌, true, false, cond, eqb, List, [], ◌++◌, length, take, drop, Some, None, Result, Ok, Err, refl, sym, ap, subst, ◌∙◌}
use Rattle.std.specs.Result.{result_ok}
use Rattle.std.specs.Str.{bytes_eq}
use Rattle.std.proofs.lemmas.Bool.{eqb-true}
use Rattle.std.proofs.lemmas.List.{take-append-drop}
use Rattle.std.proofs.lemmas.Slice.Eq.{bytes_eq-Decides}
use Rattle.sha2.specs.Sha256.{sha256}
use Rattle.wire_core.specs.declared.bad.Bad.{Bad}
use Rattle.wire_core.specs.declared.signature.Signature.{Signature}
use Rattle.wire_core.specs.declared.signature.SignerIdentity.{SignerIdentity}
use Rattle.wire_core.specs.declared.signature.SignerIdentity.TheVariants as signers
use Rattle.wire_core.specs.Reading.{whole_of}
use Rattle.wire_core.proofs.Decoders.{whole_takes}
use Rattle.wire_core.specs.Spelling.{AreBytes}
use Rattle.wire_core.specs.Laws.Bytes.{AreBytes-take}
use Rattle.security_block.specs.declared.about.About.{About}
use Rattle.security_block.specs.Signers.{IsNamed}
use Rattle.security_block.specs.StandIn.{claim, tag_of, certificate_for, claim_at, claimed, about_by, identity_by, value_by, signature_by, identifies, is_signature_by}
use Rattle.security_block.specs.Laws.Claims.{both, IsClaim, claim_laid}
use Rattle.security_block.specs.Laws.StandIn.{is_signature_by-own}

ok_of : (r : Result About Bad) (who : About) → result_ok r ≡ Some who → r ≡ Ok who
ok_of (Ok x) who e = let same : x ≡ who = cc in ap (λ (w : About). Ok w) same
ok_of (Err bad) who e = absurd cc

claimed-is : (said : List ℕ) (who : About) → AreBytes said → claimed said ≡ Some who → IsClaim who × (said ≡ claim who)
unfolding claimed
claimed-is said who bytes e = whole_takes claim_laid said who bytes (ok_of (whole_of claim_at said) who e)

-- the certificate of the one whom it is about
pub about_by-is : (certificate : List ℕ) (who : About) → AreBytes certificate → about_by certificate ≡ Some who → IsNamed who × (certificate ≡ certificate_for who)
unfolding about_by certificate_for
about_by-is certificate who bytes e =
    let n = length certificate - 32 in
    let said = take n certificate in
    elim (bytes_eq (tag_of said) (drop n certificate)) as (λ b. bytes_eq (tag_of said) (drop n certificate) ≡ b → cond b (claimed said) None ≡ Some who → IsNamed who × (certificate ≡ claim who ++ tag_of (claim who))) [
      | true ↦ λ tagged f.
          let t = claimed-is said who (AreBytes-take n certificate bytes) f in
          let tag : tag_of said ≡ drop n certificate = (bytes_eq-Decides (tag_of said) (drop n certificate)).0 tagged in
          (t.0.0, sym (take-append-drop n certificate) ∙ ap (λ (r : List ℕ). said ++ r) (sym tag) ∙ ap (λ (s : List ℕ). s ++ tag_of s) t.1)
      | false ↦ λ other f. absurd cc
    ] refl e

-- ---- signatures

identifies-is : (s : SignerIdentity) (certificate : List ℕ) → identifies s certificate ≡ true → s ≡ identity_by certificate
unfolding identifies identity_by
identifies-is (signers.CertHash alg hash) certificate e =
    let t = both _ _ e in
    let a : alg ≡ 4 = eqb-true alg 4 t.0 in
    let h : hash ≡ sha256 certificate = (bytes_eq-Decides hash (sha256 certificate)).0 t.1 in
    λ i. signers.CertHash (a i) (h i)
identifies-is (signers.CertHashNodeId alg hash) certificate e = absurd cc
identifies-is signers.None certificate e = absurd cc

pub is_signature_by-is : (certificate bytes : List ℕ) (s : Signature) → is_signature_by certificate bytes s ≡ true → s ≡ signature_by certificate bytes
unfolding is_signature_by signature_by
is_signature_by-is certificate bytes s e =
    let v = both _ _ e in
    let i = both _ _ v.0 in
    let a = both _ _ i.0 in
    let hash : s.hash ≡ 4 = eqb-true s.hash 4 a.0 in
    let algorithm : s.algorithm ≡ 224 = eqb-true s.algorithm 224 a.1 in
    let signer = identifies-is s.identity certificate i.1 in
    let value : s.value ≡ value_by certificate bytes = (bytes_eq-Decides s.value (value_by certificate bytes)).0 v.1 in
    λ j. record { hash = hash j; algorithm = algorithm j; identity = signer j; value = value j }

pub is_signature_by-from : (certificate bytes : List ℕ) (s : Signature) → s ≡ signature_by certificate bytes → is_signature_by certificate bytes s ≡ true
is_signature_by-from certificate bytes s e = subst (λ (t : Signature). is_signature_by certificate bytes t ≡ true) (sym e) (is_signature_by-own certificate bytes)
