use Rattle.std.proofs.Common.{◌^◌, length, ap, sym, ◌∙◌, map, arith}
use Rattle.std.proofs.lemmas.Iterator.Consumers.{YieldsList-turn, YieldsList-end}
use Rattle.std.proofs.lemmas.Iterator.Adapters.{YieldsList-from_vec}
use Rattle.data_models.specs.Stored.{stored, IsSpelledStored}
use Rattle.node_messages.specs.Signed.{words_of}
use Rattle.node_model.specs.Askings.{asked_value}
use Rattle.message_askings.proofs.Turns.{item_of, part_of, mapped}
use Rattle.message_askings.proofs.store.known_values.Goals as goal

pub asked_value-requires-clause-spelled : goal.asked_value-requires-clause-spelled
asked_value-requires-clause-spelled g c =
    let given = c.into_iter-v-iterator.ensures.into_iter_gives in
    let items = c.into_vec-v-items.ensures in
    let len = ap length items in
    let turn = YieldsList-turn (YieldsList-from_vec c.args.list (given.0 ∙ items) (omega (arith, given.1, len, c.into_vec-v-items.result.ok))) c.loop-v.yielded c.loop-v.v-iterator c.loop-v.yielded_by c.next.result c.next.new.self c.in-Some.v c.in-Some.is c.next.ensures.steps in
    item_of IsSpelledStored c.args.list (length c.loop-v.yielded) c.in-Some.v c.requires.each turn

pub asked_value-requires-clause-small : goal.asked_value-requires-clause-small
asked_value-requires-clause-small g c =
    let given = c.into_iter-v-iterator.ensures.into_iter_gives in
    let items = c.into_vec-v-items.ensures in
    let len = ap length items in
    let turn = YieldsList-turn (YieldsList-from_vec c.args.list (given.0 ∙ items) (omega (arith, given.1, len, c.into_vec-v-items.result.ok))) c.loop-v.yielded c.loop-v.v-iterator c.loop-v.yielded_by c.next.result c.next.new.self c.in-Some.v c.in-Some.is c.next.ensures.steps in
    part_of stored c.args.list (length c.loop-v.yielded) (2 ^ 32) c.in-Some.v c.requires.fits turn

pub returns : goal.returns
returns g c =
    let given = c.into_iter-v-iterator.ensures.into_iter_gives in
    let items = c.into_vec-v-items.ensures in
    let len = ap length items in
    let words = words_of g.G.Signer.certificate_of g.G.Signer.signature_of g.G.Signer.about_of g.G.Signer.verifies c.args.signer.now in
    let all = YieldsList-end (YieldsList-from_vec c.args.list (given.0 ∙ items) (omega (arith, given.1, len, c.into_vec-v-items.result.ok))) c.loop-v.yielded c.loop-v.v-iterator c.loop-v.yielded_by c.next.result c.next.new.self c.in-None.is c.next.ensures.steps in
    c.loop-v.invariant ∙ ap (map (asked_value words c.args.certificates.now c.args.resource.0 c.args.kind)) (sym (mapped c.loop-v.yielded) ∙ all.0)
