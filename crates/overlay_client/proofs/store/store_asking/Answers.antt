use Rattle.node_messages.specs.Signed.{words_of}
use Rattle.overlay_client.proofs.Made.{store_none}
use Rattle.overlay_client.proofs.store.store_asking.Goals as goal

pub returns-then-not-kinds_fit-clause-value : goal.returns-then-not-kinds_fit-clause-value
returns-then-not-kinds_fit-clause-value g c =
    store_none (words_of g.G.Signer.certificate_of g.G.Signer.signature_of g.G.Signer.about_of g.G.Signer.verifies c.args.signer.now)
    c.args.node.now c.args.command c.next_id.result c.kinds_fit.result c.kinds_fit.ensures
    c.if-not-kinds_fit.true c.next_id.ensures
