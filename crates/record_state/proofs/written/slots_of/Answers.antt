use Rattle.std.proofs.Common.{◌≡◌, List, [], ◌∷◌, arith, length, map, refl, ap, ◌∙◌}
use Rattle.std.specs.Prelude.{fold}
use Rattle.std.specs.FinMap.{empty}
use Rattle.std.proofs.lemmas.Iterator.Consumers.{YieldsList-end}
use Rattle.std.proofs.lemmas.Iterator.Adapters.{YieldsList-from_vec}
use Rattle.storage_model.specs.declared.record.Slot.{Slot}
use Rattle.record_state.proofs.Listing.{with_listed, slots_listed}
use Rattle.record_state.proofs.written.slots_of.Goals as goal

mapped : (xs : List Slot) → xs ≡ map (λ s. s) xs
mapped [] = refl
mapped (x ∷ xs) = ap (λ rest. x ∷ rest) (mapped xs)

pub returns : goal.returns
returns c =
    let given = c.into_iter-slot-iterator.ensures.into_iter_gives in
    let items = c.into_vec-slot-items.ensures in
    let len = ap length items in
    let all = YieldsList-end (YieldsList-from_vec c.args.slots (given.0 ∙ items) (omega (arith, given.1, len, c.into_vec-slot-items.result.ok))) c.loop-slot.yielded c.loop-slot.slot-iterator c.loop-slot.yielded_by c.next.result c.next.new.self c.in-None.is c.next.ensures.steps in
    c.loop-slot.invariant ∙ ap (fold with_listed empty) (mapped c.loop-slot.yielded ∙ all.0) ∙ slots_listed c.args.slots c.requires
