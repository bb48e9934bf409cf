use Rattle.std.proofs.Common.{◌≡◌, ap, ◌∙◌}
use Rattle.data_models.specs.declared.config.Config.{Config}
use Rattle.node_messages.specs.Behind.{message_of}
use Rattle.node_messages.specs.Signed.{words_of}
use Rattle.node_model.specs.Askings.{asked_in}
use Rattle.node_model.specs.Peers.{Peer}
use Rattle.overlay_peer.proofs.Deciding.{decides_is}
use Rattle.overlay_peer.proofs.peer.Peer.ask.Goals as goal

pub returns-clause-exact : goal.returns-clause-exact
returns-clause-exact g c = λ now code.
    let words = words_of g.G.Signer.certificate_of g.G.Signer.signature_of g.G.Signer.about_of g.G.Signer.verifies c.args.signer.now in
    let own : c.config.result.now ≡ c.args.self.now.node.config = c.config.ensures ∙ ap (λ (p : Peer). p.node.config) c.self.view_is in
    decides_is words c.args.self.now now c.args.from c.args.header.now c.args.resource (message_of c.args.header.now code c.args.behind) c.origin_of-origin.result c.in_ok-request.request c.in_ok-reply.reply
    (c.origin_of-origin.ensures c.args.header.now code)
    (c.in_ok-request.ensures.exact code ∙ ap (λ (k : Config). asked_in words k c.args.resource (message_of c.args.header.now code c.args.behind)) own)
    c.in_ok-reply.ensures
