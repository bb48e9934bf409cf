use Rattle.node_messages.specs.Signed.{words_of}
use Rattle.overlay_peer.proofs.Sendings.{made_within}
use Rattle.overlay_peer.proofs.reply.reply.Goals as goal

pub returns-clause-fits : goal.returns-clause-fits
returns-clause-fits g c =
    let words = words_of g.G.Signer.certificate_of g.G.Signer.signature_of g.G.Signer.about_of g.G.Signer.verifies c.args.signer.now in
    made_within words c.args.about.now c.args.header _ c.in_ok-message.message c.in_ok-message.ensures
