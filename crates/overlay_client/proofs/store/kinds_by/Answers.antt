use Rattle.data_models.specs.declared.fetched.StoreKind.{StoreKind}
use Rattle.node_messages.specs.Signed.{words_of}
use Rattle.overlay_client.specs.Signing.{AreSpelled, kind_by}
use Rattle.overlay_client.proofs.Signing.{changed_more}
use Rattle.overlay_client.proofs.store.kinds_by.Goals as goal

pub loop-kind-preserved : goal.loop-kind-preserved
loop-kind-preserved g c =
    changed_more (λ (k : StoreKind). AreSpelled k.values) (kind_by (words_of g.G.Signer.certificate_of g.G.Signer.signature_of g.G.Signer.about_of g.G.Signer.verifies c.args.signer.now)
    c.args.certificate.now c.args.resource.0) c.loop-kind.yielded c.loop-kind.signed
    c.push.new.self c.in-Some.kind c.in_ok-signed_kind.field-0 c.loop-kind.invariant
    c.in_ok-signed_kind.ensures c.in_ok-push.ensures.ok
