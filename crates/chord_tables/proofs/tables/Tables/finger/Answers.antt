use Rattle.std.proofs.Common.{◌≡◌, ◌∙◌, ℕ, ◌<◌, List, [], ◌∷◌, length, get_or, map, ap, sym, refl, arith}
use Rattle.std.specs.Prelude.{slice_get, zero, suc, Option, Some, None}
use Rattle.reload_ids.specs.declared.NodeId.{NodeId}
use Rattle.chord_tables.specs.Tables.{number}
use Rattle.chord_tables.proofs.tables.Tables.finger.Goals as goal

number_at : (fingers : List (Option NodeId)) (i : ℕ) → i < length fingers
    → slice_get (map number fingers) i ≡ Some (number (get_or fingers i None))
number_at [] i lt = absurd (omega arith)
number_at (f ∷ fingers) zero lt = refl
number_at (f ∷ fingers) (suc i) lt = number_at fingers i (omega arith)

pub returns : goal.returns
returns c =
    ap (λ l. slice_get l c.args.i) (sym c.fingers.ensures.value)
    ∙ number_at c.fingers.result.now c.args.i (omega arith)
    ∙ ap (λ i. Some (number (get_or c.fingers.result.now i None))) (sym c.from.ensures)
