use Rattle.std.proofs.Common.{◌≡◌, map, All}
use Rattle.node_messages.specs.Signed.{words_of}
use Rattle.overlay_client.specs.Signing.{AreSpelled, kind_by}
use Rattle.overlay_client.proofs.store.kinds_by.Given as goal

abbrev pub invariant-loop-kind : goal.invariant-loop-kind
invariant-loop-kind g l =
    All (λ k. AreSpelled k.values) l.yielded → l.signed ≡ map (kind_by (words_of
    g.G.Signer.certificate_of g.G.Signer.signature_of g.G.Signer.about_of g.G.Signer.verifies
    l.signer) l.certificate l.resource.0) l.yielded
