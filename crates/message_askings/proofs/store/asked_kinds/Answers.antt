use Rattle.std.proofs.Common.{length, ap, sym, ◌∙◌, map, arith}
use Rattle.std.proofs.lemmas.Iterator.Consumers.{YieldsList-turn, YieldsList-end}
use Rattle.std.proofs.lemmas.Iterator.Adapters.{YieldsList-from_vec}
use Rattle.data_models.specs.StoreKinds.{IsSpelledStoreKind}
use Rattle.node_messages.specs.Signed.{words_of}
use Rattle.node_model.specs.Askings.{asked_kind}
use Rattle.message_askings.proofs.Turns.{item_of, mapped}
use Rattle.message_askings.proofs.store.asked_kinds.Goals as goal

pub asked_kind-requires : goal.asked_kind-requires
asked_kind-requires g c =
    let given = c.into_iter-kind-iterator.ensures.into_iter_gives in
    let items = c.into_vec-kind-items.ensures in
    let len = ap length items in
    let turn = YieldsList-turn (YieldsList-from_vec c.args.kinds (given.0 ∙ items) (omega (arith, given.1, len, c.into_vec-kind-items.result.ok))) c.loop-kind.yielded c.loop-kind.kind-iterator c.loop-kind.yielded_by c.next.result c.next.new.self c.in-Some.kind c.in-Some.is c.next.ensures.steps in
    item_of IsSpelledStoreKind c.args.kinds (length c.loop-kind.yielded) c.in-Some.kind c.requires turn

pub returns : goal.returns
returns g c =
    let given = c.into_iter-kind-iterator.ensures.into_iter_gives in
    let items = c.into_vec-kind-items.ensures in
    let len = ap length items in
    let words = words_of g.G.Signer.certificate_of g.G.Signer.signature_of g.G.Signer.about_of g.G.Signer.verifies c.args.signer.now in
    let all = YieldsList-end (YieldsList-from_vec c.args.kinds (given.0 ∙ items) (omega (arith, given.1, len, c.into_vec-kind-items.result.ok))) c.loop-kind.yielded c.loop-kind.kind-iterator c.loop-kind.yielded_by c.next.result c.next.new.self c.in-None.is c.next.ensures.steps in
    c.loop-kind.invariant ∙ ap (map (asked_kind words c.args.certificates.now c.args.resource.0)) (sym (mapped c.loop-kind.yielded) ∙ all.0)
