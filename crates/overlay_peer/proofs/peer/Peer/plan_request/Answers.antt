use Rattle.std.proofs.Common.{◌≡◌, ap, subst, ◌∙◌}
use Rattle.std.specs.Prelude.{IfOk}
use Rattle.chord_tables.specs.Tables.{Tables}
use Rattle.node_messages.specs.Signed.{words_of}
use Rattle.node_model.specs.declared.course.Course.{Course}
use Rattle.node_model.specs.declared.peer_state.PeerState.{PeerState}
use Rattle.node_model.specs.Courses as courses
use Rattle.node_model.specs.Peers as model
use Rattle.message_courses.specs.Seen.{seen}
use Rattle.overlay_peer.specs.Plans.{planned}
use Rattle.overlay_peer.proofs.peer.Peer.plan_request.Goals as goal

pub returns-clause-exact : goal.returns-clause-exact
returns-clause-exact g c = λ now.
    let words = words_of g.G.Signer.certificate_of g.G.Signer.signature_of g.G.Signer.about_of g.G.Signer.verifies c.args.signer.now in
    let p = c.args.self.now in
    let its : c.in_ok-course.course ≡ courses.course c.args.from p.tables (model.state_of p.membership) c.args.size c.args.e.header =
    c.in_ok-course.ensures.value
    ∙ ap (λ (t : Tables). courses.course c.args.from t c.state.result c.args.size c.args.e.header) (ap (λ (x : model.Peer). x.tables) c.self.view_is)
    ∙ ap (λ (s : PeerState). courses.course c.args.from p.tables s c.args.size c.args.e.header) c.state.ensures in
    subst (λ (x : Course). IfOk c.plan_course.result (λ plan. planned words p now c.args.from plan ≡ model.by_course words p now c.args.from (seen c.args.e) x)) its (c.plan_course.ensures.exact now)
