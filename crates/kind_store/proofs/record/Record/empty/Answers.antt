use Rattle.std.proofs.Common.{◌≡◌, ◌≤◌, ap, sym, subst, ◌∙◌, arith}
use Rattle.storage_model.specs.Records.{weight}
use Rattle.record_state.proofs.KindMaps.{weight-empty}
use Rattle.kind_store.proofs.record.Record.empty.Goals as goal

pub invariant_of-result : goal.invariant_of-result
invariant_of-result c = subst (λ n. n ≤ 131072) (sym (ap weight c.new.ensures ∙ weight-empty)) (omega arith)
