use Rattle.std.proofs.Common.{ap}
use Rattle.node_messages.specs.Signed.{words_of}
use Rattle.node_model.specs.Nodes.{Node}
use Rattle.node_model.specs.Requests.{fetch_request}
use Rattle.node_model.specs.Clients.{Client}
use Rattle.overlay_client.proofs.Asks.{ask_ok, ask_out}
use Rattle.overlay_client.proofs.client.Client.fetch.Goals as goal

pub returns-clause-ok : goal.returns-clause-ok
returns-clause-ok g c =
    ask_ok c.ask.result c.ask.new.self (words_of g.G.Signer.certificate_of g.G.Signer.signature_of
    g.G.Signer.about_of g.G.Signer.verifies c.args.signer.now) c.args.now (λ (n : Node). fetch_request n c.args.command)
    c.in_ok-asking.asking c.self.inside.node c.args.self.now c.in_ok-asking.ensures.value
    (ap (λ (x : Client). x.node) c.self.view_is) c.ask.ensures.ok

pub returns-clause-outputs : goal.returns-clause-outputs
returns-clause-outputs g c =
    ask_out c.ask.result (words_of g.G.Signer.certificate_of g.G.Signer.signature_of
    g.G.Signer.about_of g.G.Signer.verifies c.args.signer.now) c.args.now (λ (n : Node). fetch_request n c.args.command)
    c.in_ok-asking.asking c.self.inside.node c.args.self.now c.in_ok-asking.ensures.value
    (ap (λ (x : Client). x.node) c.self.view_is) c.ask.ensures.outputs
