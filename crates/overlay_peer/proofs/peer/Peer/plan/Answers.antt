use Rattle.std.proofs.Common.{◌≡◌, ap, sym, subst, ◌∙◌, refl, Some}
use Rattle.std.specs.Prelude.{IfOk}
use Rattle.std.specs.Option.{option_map}
use Rattle.reload_ids.specs.Ids.{overlay_id}
use Rattle.node_messages.specs.Signed.{words_of}
use Rattle.node_model.specs.Heard.{heard_in}
use Rattle.node_model.specs.Peers.{Peer, Reaction}
use Rattle.message_courses.specs.Seen.{seen}
use Rattle.overlay_peer.specs.Plans.{planned}
use Rattle.overlay_peer.proofs.Reacting.{reacts_to_answer, reacts_to_request}
use Rattle.overlay_peer.proofs.peer.Peer.plan.Goals as goal

pub returns-then-is_answer-clause-exact : goal.returns-then-is_answer-clause-exact
returns-then-is_answer-clause-exact g c = λ now.
    let words = words_of g.G.Signer.certificate_of g.G.Signer.signature_of g.G.Signer.about_of g.G.Signer.verifies c.args.signer.now in
    let p = c.args.self.now in
    let own : c.overlay.result ≡ overlay_id p.node.config.name = c.overlay.ensures ∙ ap (λ (x : Peer). overlay_id x.node.config.name) c.self.view_is in
    let heard : heard_in p.node.config c.args.message.now ≡ Some (seen c.in-Some.e) = sym (c.in_ok-e.ensures.value p.node.config own) ∙ ap (λ o. option_map seen o) c.in-Some.is in
    let is = reacts_to_answer words p now c.args.from c.args.message.now (seen c.in-Some.e) heard (sym (c.is_answer.ensures (seen c.in-Some.e) refl) ∙ c.if-is_answer.true) in
    subst (λ (x : Reaction). IfOk c.plan_answer.result (λ plan. planned words p now c.args.from plan ≡ x)) (sym is) (c.plan_answer.ensures.exact now)

pub returns-else-is_answer-clause-exact : goal.returns-else-is_answer-clause-exact
returns-else-is_answer-clause-exact g c = λ now.
    let words = words_of g.G.Signer.certificate_of g.G.Signer.signature_of g.G.Signer.about_of g.G.Signer.verifies c.args.signer.now in
    let p = c.args.self.now in
    let own : c.overlay.result ≡ overlay_id p.node.config.name = c.overlay.ensures ∙ ap (λ (x : Peer). overlay_id x.node.config.name) c.self.view_is in
    let heard : heard_in p.node.config c.args.message.now ≡ Some (seen c.in-Some.e) = sym (c.in_ok-e.ensures.value p.node.config own) ∙ ap (λ o. option_map seen o) c.in-Some.is in
    let is = reacts_to_request words p now c.args.from c.args.message.now (seen c.in-Some.e) heard (sym (c.is_answer.ensures (seen c.in-Some.e) refl) ∙ c.if-is_answer.false) in
    subst (λ (x : Reaction). IfOk c.plan_request.result (λ plan. planned words p now c.args.from plan ≡ x)) (sym is) (c.plan_request.ensures.exact now)
