-- A question that is put, and taken back.
use Rattle.std.proofs.Common.{◌≡◌, ℕ, None}
use Rattle.std.specs.Ordering.{nat_cmp}
use Rattle.std.specs.Cmp.{nat_cmp_total}
use Rattle.std.specs.FinMap.{FinMap, nat_cmp-IsAntisymmetric, get, insert, remove}
use Rattle.ordered_tables.proofs.Finite.{remove-insert}
use Rattle.node_model.specs.declared.question.Question.{Question}

pub question_back : (m : FinMap nat_cmp Question) (id : ℕ) (question : Question) → get m id ≡ None
    → remove (insert m id question) id ≡ m
question_back m id question none =
    remove-insert nat_cmp_total nat_cmp-IsAntisymmetric m id question none
