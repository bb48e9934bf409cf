use Rattle.std.proofs.Common.{◌≡◌, map}
use Rattle.node_messages.specs.Signed.{words_of}
use Rattle.node_model.specs.Askings.{asked_value}
use Rattle.message_askings.proofs.store.known_values.Given as goal

-- those so far are asked for
abbrev pub invariant-loop-v : goal.invariant-loop-v
invariant-loop-v g l =
    let words = words_of g.G.Signer.certificate_of g.G.Signer.signature_of g.G.Signer.about_of g.G.Signer.verifies l.signer in
    l.all ≡ map (asked_value words l.certificates l.resource.0 l.kind) l.yielded
