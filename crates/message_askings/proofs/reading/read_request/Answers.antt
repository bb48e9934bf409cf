use Rattle.std.proofs.Common.{arith}
use Rattle.node_messages.specs.Signed.{words_of}
use Rattle.message_askings.proofs.Spellings.{is_spelled}
use Rattle.message_askings.proofs.reading.read_request.Goals as goal

pub returns-clause-spelled : goal.returns-clause-spelled
returns-clause-spelled g c =
    let words = words_of g.G.Signer.certificate_of g.G.Signer.signature_of g.G.Signer.about_of g.G.Signer.verifies c.args.signer.now in
    is_spelled c.args.config.now words c.args.header.now c.args.code c.args.behind.now c.read_contents.result (λ i. omega (arith, c.type_inv.behind i)) c.read_contents.ensures
