use Rattle.std.proofs.Common.{ap, sym, ◌∙◌, false}
use Rattle.std.specs.Option.{option_map_or}
use Rattle.std.specs.FinMap.{get}
use Rattle.data_models.specs.declared.config.Config.{Config}
use Rattle.node_messages.specs.Signed.{words_of}
use Rattle.node_model.specs.Heard.{message_in}
use Rattle.node_model.specs.Ends.{is_end_of, is_of_peer}
use Rattle.node_model.specs.Peers.{Peer}
use Rattle.message_courses.specs.Seen.{seen}
use Rattle.overlay_peer.proofs.Heads.{own_unended, own_signed, own_unsigned, own_head}
use Rattle.overlay_peer.proofs.peer.Peer.plan_own.Goals as goal

pub returns-then-not-branch-clause-exact : goal.returns-then-not-branch-clause-exact
returns-then-not-branch-clause-exact g c = λ now.
    let words = words_of g.G.Signer.certificate_of g.G.Signer.signature_of g.G.Signer.about_of g.G.Signer.verifies c.args.signer.now in
    own_unended words c.args.self.now now c.args.from (seen c.args.e.now)
    (sym c.if-not-branch.true ∙ c.in_ok-is_end_of.ensures ∙ ap (λ (p : Peer). option_map_or (is_end_of (seen c.args.e.now)) (get p.txns.outboxes c.args.from.0) false) c.self.view_is)

pub returns-then-branch-clause-exact : goal.returns-then-branch-clause-exact
returns-then-branch-clause-exact g c = λ now.
    let words = words_of g.G.Signer.certificate_of g.G.Signer.signature_of g.G.Signer.about_of g.G.Signer.verifies c.args.signer.now in
    own_signed words c.args.self.now now c.args.from (seen c.args.e.now)
    (sym c.if-not-branch.false ∙ c.in_ok-is_end_of.ensures ∙ ap (λ (p : Peer). option_map_or (is_end_of (seen c.args.e.now)) (get p.txns.outboxes c.args.from.0) false) c.self.view_is)
    (sym c.if-branch.true ∙ c.in_ok-is_of_peer.ensures ∙ ap (λ (k : Config). is_of_peer (message_in k words (seen c.args.e.now))) (c.config.ensures ∙ ap (λ (p : Peer). p.node.config) c.self.view_is))

pub returns-then-branch-clause-fits : goal.returns-then-branch-clause-fits
returns-then-branch-clause-fits g c =
    own_head c.args.self.now.txns c.args.from (seen c.args.e.now)
    (sym c.if-not-branch.false ∙ c.in_ok-is_end_of.ensures ∙ ap (λ (p : Peer). option_map_or (is_end_of (seen c.args.e.now)) (get p.txns.outboxes c.args.from.0) false) c.self.view_is)

pub returns-else-branch-clause-exact : goal.returns-else-branch-clause-exact
returns-else-branch-clause-exact g c = λ now.
    let words = words_of g.G.Signer.certificate_of g.G.Signer.signature_of g.G.Signer.about_of g.G.Signer.verifies c.args.signer.now in
    own_unsigned words c.args.self.now now c.args.from (seen c.args.e.now)
    (sym c.if-not-branch.false ∙ c.in_ok-is_end_of.ensures ∙ ap (λ (p : Peer). option_map_or (is_end_of (seen c.args.e.now)) (get p.txns.outboxes c.args.from.0) false) c.self.view_is)
    (sym c.if-branch.false ∙ c.in_ok-is_of_peer.ensures ∙ ap (λ (k : Config). is_of_peer (message_in k words (seen c.args.e.now))) (c.config.ensures ∙ ap (λ (p : Peer). p.node.config) c.self.view_is))
