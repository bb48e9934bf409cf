use Rattle.std.proofs.Common.{refl, sym, ap, ◌∙◌, ℕ}
use Rattle.node_messages.specs.Signed.{words_of}
use Rattle.node_model.specs.Nodes.{me}
use Rattle.node_model.specs.Ways.{answer_course}
use Rattle.node_model.specs.Clients.{Client}
use Rattle.message_courses.specs.Seen.{seen}
use Rattle.overlay_client.specs.declared.hearing.Reaction.{Reaction}
use Rattle.overlay_client.specs.Reactions.{reaction_of}
use Rattle.overlay_client.proofs.Hears.{request_is, answer_is, value_along}
use Rattle.overlay_client.proofs.client.Client.reaction.Goals as goal

pub returns-then-not-is_answer-clause-value : goal.returns-then-not-is_answer-clause-value
returns-then-not-is_answer-clause-value g c = λ now.
    request_is (words_of g.G.Signer.certificate_of g.G.Signer.signature_of g.G.Signer.about_of g.G.Signer.verifies c.args.signer.now)
    c.args.self.now now c.args.from (seen c.args.envelope)
    (sym (c.is_answer.ensures (seen c.args.envelope) refl) ∙ c.if-not-is_answer.true)

pub returns-clause-value : goal.returns-clause-value
returns-clause-value g c = λ now.
    let e = c.args.envelope in
    value_along (λ (r : Reaction). reaction_of c.args.self.now now c.args.from r) c.by_course.result _ _
    (answer_is (words_of g.G.Signer.certificate_of g.G.Signer.signature_of g.G.Signer.about_of g.G.Signer.verifies c.args.signer.now)
    c.args.self.now now c.args.from (seen e) c.in_ok-course.course
    (sym (c.is_answer.ensures (seen e) refl) ∙ c.if-not-is_answer.false)
    (c.in_ok-course.ensures.value ∙ ap (λ (k : ℕ). answer_course k e.header)
    (c.me.ensures.number ∙ ap (λ (x : Client). me x.node) c.self.view_is)))
    (c.by_course.ensures.value now)
