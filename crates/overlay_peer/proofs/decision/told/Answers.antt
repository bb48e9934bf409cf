use Rattle.std.proofs.Common.{◌≡◌, ap, sym, subst, ◌∙◌, List, []}
use Rattle.std.specs.Prelude.{IfOk}
use Rattle.reload_ids.specs.declared.NodeId.{NodeId}
use Rattle.chord_tables.specs.Tables.{mirrors}
use Rattle.message_bodies.specs.declared.body.Body.{Body}
use Rattle.node_messages.specs.Making.{made}
use Rattle.node_messages.specs.Signed.{words_of}
use Rattle.node_links.specs.Sendings.{posted, post_of}
use Rattle.node_model.specs.Nodes.{Post}
use Rattle.node_model.specs.Replies.{body_of}
use Rattle.node_model.specs.Peers.{nodes_of}
use Rattle.security_block.specs.declared.about.About.{About}
use Rattle.overlay_peer.specs.Plans.{answer_post}
use Rattle.overlay_peer.proofs.Deciding.{nodes_of-ids}
use Rattle.overlay_peer.proofs.decision.told.Goals as goal

pub returns-clause-exact : goal.returns-clause-exact
unfolding answer_post
returns-clause-exact g c =
    let words = words_of g.G.Signer.certificate_of g.G.Signer.signature_of g.G.Signer.about_of g.G.Signer.verifies c.args.signer.now in
    let n = c.args.node.now in
    let replicas : c.mirrors-replicas.result.now ≡ nodes_of (mirrors n.config.replicas c.args.tables.now) =
    sym (nodes_of-ids c.mirrors-replicas.result.now) ∙ ap nodes_of c.mirrors-replicas.ensures ∙ ap (λ k. nodes_of (mirrors k.replicas c.args.tables.now)) c.config.ensures in
    let body : c.in_ok-body.body ≡ body_of (nodes_of (mirrors n.config.replicas c.args.tables.now)) c.args.answer.now =
    c.in_ok-body.ensures ∙ ap (λ (r : List NodeId). body_of r c.args.answer.now) replicas in
    let is : posted c.args.from (made words c.about.result.now c.args.header (record { body = c.in_ok-body.body; extensions = [] })) ≡ posted c.args.from (made words n.about c.args.header (record { body = body_of (nodes_of (mirrors n.config.replicas c.args.tables.now)) c.args.answer.now; extensions = [] })) =
    ap (λ (a : About). posted c.args.from (made words a c.args.header (record { body = c.in_ok-body.body; extensions = [] }))) c.about.ensures.value
    ∙ ap (λ (b : Body). posted c.args.from (made words n.about c.args.header (record { body = b; extensions = [] }))) body in
    subst (λ (x : Post). IfOk c.reply.result (λ sending. post_of sending ≡ x)) is c.reply.ensures.exact
