use Rattle.std.proofs.Common.{◌≡◌, Option, Some, Ok, sym, ap, ◌∙◌}
use Rattle.std.specs.FinMap.{get}
use Rattle.node_messages.specs.Signed.{words_of}
use Rattle.node_messages.specs.Behind.{message_of}
use Rattle.node_messages.specs.Reading.{read_coded}
use Rattle.node_model.specs.declared.notice.Told.{Told}
use Rattle.node_model.specs.Clients.{Client, taken_from}
use Rattle.message_courses.specs.Seen.{seen}
use Rattle.overlay_client.proofs.Hears.{taken_is, value_along}
use Rattle.overlay_client.proofs.client.Client.taken_from.Goals as goal

pub returns : goal.returns
returns g c =
    let words = (words_of g.G.Signer.certificate_of g.G.Signer.signature_of g.G.Signer.about_of g.G.Signer.verifies c.args.signer.now) in
    let e = c.args.envelope.now in
    let i = c.self.inside in
    let asked : get i.questions e.header.id ≡ Some c.in-Some.question.now =
    ap (get i.questions) (sym c.from.ensures) ∙ sym c.in-Some.ensures in
    value_along (λ (told : Option Told). told) c.told_in.result _ _
    (taken_is words c.args.from (seen e) (record { node = i.node; txns = i.table; questions = i.questions })
    c.in-Some.question.now (message_of e.header e.code c.in_ok-behind.behind)
    (sym c.is_outstanding.ensures ∙ c.if-not-is_outstanding.false) asked
    (c.in_ok-behind.ensures ∙ ap (λ config. read_coded config words e.header e.behind.now (Ok e.code)) c.config-config.ensures)
    ∙ ap (λ (x : Client). taken_from words c.args.from (seen e) x) c.self.view_is)
    (c.told_in.ensures e.header e.code)
