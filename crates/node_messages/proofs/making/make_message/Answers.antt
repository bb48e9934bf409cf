use Rattle.std.proofs.Common.{ℕ, ◌≤◌, length, ap, ◌∙◌, arith}
use Rattle.node_messages.specs.Signed.{words_of}
use Rattle.node_messages.proofs.Wholes.{signed-behind, own_is, unspelled, all_made}
use Rattle.node_messages.proofs.making.make_message.Goals as goal

pub returns-then-not-have_spelling : goal.returns-then-not-have_spelling
returns-then-not-have_spelling g c = unspelled _ c.args.about.now c.args.header c.args.contents.now c.have_spelling.result c.have_spelling.ensures c.if-not-have_spelling.true

pub split_at-requires : goal.split_at-requires
split_at-requires g c = omega (arith, (signed-behind c.args.header c.args.contents.now).0, ap length c.in_ok-signed.ensures, ap length c.as_slice-2.ensures)

pub returns : goal.returns
returns g c =
    let words = words_of g.G.Signer.certificate_of g.G.Signer.signature_of g.G.Signer.about_of g.G.Signer.verifies c.args.signer.now in
    let spelled = c.have_spelling.ensures.0 c.if-not-have_spelling.false in
    let own = own_is words c.args.about.now c.args.header c.args.contents.now c.in_ok-security.security c.as_slice.result.now c.in_ok-security.ensures.own (c.as_slice.ensures ∙ c.in_ok-signed.ensures) in
    all_made words c.args.about.now c.args.header c.args.contents.now c.as_slice-2.result.now c.split_at.result.1.now c.in_ok-security.security c.assembled.result spelled.0 spelled.1
    (c.as_slice-2.ensures ∙ c.in_ok-signed.ensures) c.split_at.ensures.back own c.in_ok-security.ensures.in_range c.assembled.ensures
