use Rattle.std.proofs.Common.{◌≡◌, map, All}
use Rattle.data_models.specs.Stored.{IsSpelledValue}
use Rattle.node_messages.specs.Signed.{words_of}
use Rattle.overlay_client.specs.Signing.{value_by}
use Rattle.overlay_client.proofs.store.signed_list.Given as goal

abbrev pub invariant-loop-value : goal.invariant-loop-value
invariant-loop-value g l =
    All IsSpelledValue l.yielded → l.signed ≡ map (value_by (words_of g.G.Signer.certificate_of
    g.G.Signer.signature_of g.G.Signer.about_of g.G.Signer.verifies l.signer) l.certificate
    l.resource.0 l.kind) l.yielded
