use Rattle.std.proofs.Common.{◌≡◌, ap, sym, subst, ◌∙◌, Ok}
use Rattle.std.specs.Prelude.{IfOk}
use Rattle.data_models.specs.declared.config.Config.{Config}
use Rattle.node_messages.specs.Behind.{message_of}
use Rattle.node_messages.specs.Reading.{read_coded}
use Rattle.node_messages.specs.Signed.{words_of}
use Rattle.node_model.specs.Peers.{Peer, Reaction}
use Rattle.message_courses.specs.Seen.{seen}
use Rattle.overlay_peer.specs.Plans.{planned}
use Rattle.overlay_peer.proofs.Reacting.{handled_decides}
use Rattle.overlay_peer.proofs.peer.Peer.plan_handled.Goals as goal

pub returns-in-Some-clause-exact : goal.returns-in-Some-clause-exact
returns-in-Some-clause-exact g c = λ now.
    let words = words_of g.G.Signer.certificate_of g.G.Signer.signature_of g.G.Signer.about_of g.G.Signer.verifies c.args.signer.now in
    let p = c.args.self.now in
    let e = c.args.e.now in
    let own : c.config.result.now ≡ p.node.config = c.config.ensures ∙ ap (λ (x : Peer). x.node.config) c.self.view_is in
    let m = message_of e.header e.code c.in_ok-behind.behind in
    let is = handled_decides words p now c.args.from (seen e) c.args.resource c.in-Some.resource m c.in-Some.is (sym c.any_has.ensures ∙ c.if-any_has.false) (sym c.is_decided.ensures ∙ c.if-is_decided.true)
    (c.in_ok-behind.ensures.exact ∙ ap (λ (k : Config). read_coded k words e.header e.behind.now (Ok e.code)) own) in
    subst (λ (x : Reaction). IfOk c.ask.result (λ plan. planned words p now c.args.from plan ≡ x)) (sym is) (c.ask.ensures.exact now e.code)
