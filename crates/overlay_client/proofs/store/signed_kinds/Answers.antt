use Rattle.std.proofs.Common.{◌∙◌}
use Rattle.node_messages.specs.Signed.{words_of}
use Rattle.overlay_client.proofs.Signing.{kinds_done}
use Rattle.overlay_client.proofs.store.signed_kinds.Goals as goal

pub returns : goal.returns
returns g c =
    kinds_done c.kinds_by.result (words_of g.G.Signer.certificate_of g.G.Signer.signature_of g.G.Signer.about_of g.G.Signer.verifies c.args.signer.now)
    c.args.about.now c.as_slice.result.now c.args.resource.0 c.args.kinds
    (c.as_slice.ensures ∙ c.in_ok-certificate.ensures) c.requires.spelled c.kinds_by.ensures
