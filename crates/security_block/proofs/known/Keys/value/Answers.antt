use Rattle.std.proofs.Common.{◌≡◌, List, ℕ, [], ◌∷◌, ◌++◌, length, ap, refl, sym, ◌∙◌, append_assoc}
use Rattle.sha2.specs.Sha256.{sha256}
use Rattle.sha2.proofs.Facts256.{length-sha256}
use Rattle.wire_core.specs.Spelling.{number}
use Rattle.wire_core.specs.Signature.{identity}
use Rattle.wire_core.specs.declared.signature.SignerIdentity.TheVariants as signers
use Rattle.security_block.specs.StandIn.{key_text, identity_by, value_by}
use Rattle.security_block.proofs.known.Keys.value.Goals as goal

-- what stands before the hash in an identity
identity-hash : (hash : List ℕ) → length hash ≡ 32 → identity (signers.CertHash 4 hash) ≡ (1 ∷ 0 ∷ 34 ∷ 4 ∷ 32 ∷ []) ++ hash
unfolding identity number
identity-hash hash len = rw len refl

pieces : (k c b h f : List ℕ) → ((((k ++ c) ++ b) ++ h) ++ f) ≡ k ++ (c ++ (b ++ (h ++ f)))
pieces k c b h f = simp append_assoc

pub returns : goal.returns
unfolding value_by identity_by
returns c certificate are =
    let bytes = c.update.ensures _ are.1 in
    let head = c.update-2.ensures _ bytes in
    let all = c.finalize.ensures _ (c.update-3.ensures _ head) in
    let b = c.args.bytes.now in
    all ∙ ap sha256 (pieces key_text certificate b (1 ∷ 0 ∷ 34 ∷ 4 ∷ 32 ∷ []) _
    ∙ ap (λ f. key_text ++ (certificate ++ (b ++ ((1 ∷ 0 ∷ 34 ∷ 4 ∷ 32 ∷ []) ++ f)))) are.0
    ∙ ap (λ s. key_text ++ (certificate ++ (b ++ s))) (sym (identity-hash (sha256 certificate) (length-sha256 certificate))))
