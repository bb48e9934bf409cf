use Rattle.std.proofs.Common.{◌≡◌, Option, Some, None, IsSome, is_some, refl, sym, ap, ◌∙◌}
use Rattle.std.specs.Option.{option_map}
use Rattle.security_block.specs.StandIn.{about_by}
use Rattle.security_block.proofs.StandInExact.{is_signature_by-is, is_signature_by-from}
use Rattle.security_block.proofs.stand_in.StandInSigner.verify.Goals as goal

is_some-option_map : {A B : Type 0} (f : A → B) (o : Option A) → is_some (option_map f o) ≡ is_some o
is_some-option_map f (Some x) = refl
is_some-option_map f None = refl

pub returns-in-Some-clause-exact : goal.returns-in-Some-clause-exact
returns-in-Some-clause-exact c =
    (λ t. (c.in-Some.ensures.about, is_signature_by-is _ _ _ (sym c.is_signature.ensures ∙ t)), λ h. c.is_signature.ensures ∙ is_signature_by-from _ _ _ h.1)

pub returns-then-is_some-clause-exact : goal.returns-then-is_some-clause-exact
returns-then-is_some-clause-exact c =
    let someone : IsSome (about_by c.args.certificate.now) = ap is_some (sym c.claim_of.ensures) ∙ is_some-option_map _ c.claim_of.result ∙ sym c.is_some.ensures ∙ c.if-is_some.true in
    (λ t. (someone, is_signature_by-is _ _ _ (sym c.is_signature-then-is_some.ensures ∙ t)), λ h. c.is_signature-then-is_some.ensures ∙ is_signature_by-from _ _ _ h.1)
