use Rattle.data_models.specs.Stored.{IsSpelledValue}
use Rattle.node_messages.specs.Signed.{words_of}
use Rattle.overlay_client.specs.Signing.{value_by}
use Rattle.overlay_client.proofs.Signing.{changed_more}
use Rattle.overlay_client.proofs.store.signed_list.Goals as goal

pub loop-value-preserved : goal.loop-value-preserved
loop-value-preserved g c =
    changed_more IsSpelledValue (value_by (words_of g.G.Signer.certificate_of g.G.Signer.signature_of g.G.Signer.about_of g.G.Signer.verifies c.args.signer.now)
    c.args.certificate.now c.args.resource.0 c.args.kind) c.loop-value.yielded c.loop-value.signed
    c.push.new.self c.in-Some.value c.in_ok-signed_value.field-0 c.loop-value.invariant
    c.in_ok-signed_value.ensures c.in_ok-push.ensures.ok
