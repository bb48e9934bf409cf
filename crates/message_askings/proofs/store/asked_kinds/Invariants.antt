use Rattle.std.proofs.Common.{◌≡◌, map}
use Rattle.node_messages.specs.Signed.{words_of}
use Rattle.node_model.specs.Askings.{asked_kind}
use Rattle.message_askings.proofs.store.asked_kinds.Given as goal

-- those so far are asked for
abbrev pub invariant-loop-kind : goal.invariant-loop-kind
invariant-loop-kind g l =
    let words = words_of g.G.Signer.certificate_of g.G.Signer.signature_of g.G.Signer.about_of g.G.Signer.verifies l.signer in
    l.all ≡ map (asked_kind words l.certificates l.resource.0) l.yielded
