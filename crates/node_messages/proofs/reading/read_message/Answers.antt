use Rattle.std.proofs.Common.{arith}
use Rattle.node_messages.specs.Signed.{words_of}
use Rattle.node_messages.proofs.Readers.{is_found, is_only}
use Rattle.node_messages.proofs.reading.read_message.Goals as goal

pub returns-clause-found : goal.returns-clause-found
returns-clause-found g c =
    let words = words_of g.G.Signer.certificate_of g.G.Signer.signature_of g.G.Signer.about_of g.G.Signer.verifies c.args.signer.now in
    is_found c.args.config.now words c.args.message.now c.read_all.result (λ i. omega (arith, c.type_inv.message i)) c.read_all.ensures

pub returns-clause-only : goal.returns-clause-only
returns-clause-only g c = λ m f.
    let words = words_of g.G.Signer.certificate_of g.G.Signer.signature_of g.G.Signer.about_of g.G.Signer.verifies c.args.signer.now in
    is_only c.args.config.now words c.args.message.now c.read_all.result m (λ i. omega (arith, c.type_inv.message i)) f c.read_all.ensures
