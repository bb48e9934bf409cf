use Rattle.std.proofs.Common.{sym, ◌∙◌}
use Rattle.node_messages.specs.Signed.{words_of}
use Rattle.message_courses.specs.Seen.{seen}
use Rattle.overlay_client.proofs.Hears.{taken_there}
use Rattle.overlay_client.proofs.client.Client.own_answer.Goals as goal

pub returns-in-Some-clause-fits : goal.returns-in-Some-clause-fits
returns-in-Some-clause-fits g c =
    let words = (words_of g.G.Signer.certificate_of g.G.Signer.signature_of g.G.Signer.about_of g.G.Signer.verifies c.args.signer.now) in
    taken_there words c.args.from (seen c.args.envelope.now) c.args.self.now c.in-Some.told
    (sym c.in-Some.is ∙ c.in_ok-told.ensures)
