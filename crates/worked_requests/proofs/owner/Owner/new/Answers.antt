use Rattle.std.proofs.Common.{ℕ, sym, subst}
use Rattle.storage_model.specs.Records.{Map, record_in}
use Rattle.storage_model.specs.Laws.{IsWithin}
use Rattle.worked_requests.proofs.Counts.{none_within}
use Rattle.worked_requests.proofs.owner.Owner.new.Goals as goal

pub invariant_of-result : goal.invariant_of-result
invariant_of-result c = subst (λ (s : Map). (r : ℕ) → IsWithin 0 (record_in s r)) (sym c.new.ensures) (none_within 0)
