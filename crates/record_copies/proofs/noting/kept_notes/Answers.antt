use Rattle.std.proofs.Common.{◌≡◌, List, [], ◌∷◌, length, ap, sym, ◌∙◌, map, refl, arith}
use Rattle.std.proofs.lemmas.Iterator.Consumers.{YieldsList-end}
use Rattle.std.proofs.lemmas.Iterator.Adapters.{YieldsList-from_vec}
use Rattle.storage_model.specs.declared.record.Kept.{Kept}
use Rattle.node_model.specs.Copies.{kept_noted}
use Rattle.record_copies.proofs.noting.kept_notes.Goals as goal

mapped : (xs : List Kept) → map (λ x. x) xs ≡ xs
mapped [] = refl
mapped (x ∷ xs) = ap (λ rest. x ∷ rest) (mapped xs)

pub returns : goal.returns
returns c =
    let given = c.into_iter-answer-iterator.ensures.into_iter_gives in
    let items = c.into_vec-answer-items.ensures in
    let len = ap length items in
    let all = YieldsList-end (YieldsList-from_vec c.args.kept (given.0 ∙ items) (omega (arith, given.1, len, c.into_vec-answer-items.result.ok))) c.loop-answer.yielded c.loop-answer.answer-iterator c.loop-answer.yielded_by c.next.result c.next.new.self c.in-None.is c.next.ensures.steps in
    c.loop-answer.invariant ∙ ap (map kept_noted) (sym (mapped c.loop-answer.yielded) ∙ all.0)
