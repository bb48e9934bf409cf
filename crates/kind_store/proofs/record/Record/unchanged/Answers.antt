use Rattle.std.proofs.Common.{◌≡◌, ◌≤◌, subst}
use Rattle.storage_model.specs.declared.limits.TheConstants.{MAX_WEIGHT}
use Rattle.storage_model.specs.Records.{Record, weight}
use Rattle.kind_store.proofs.Undoings.{nothing_back}
use Rattle.kind_store.proofs.record.Record.unchanged.Goals as goal

pub returns : goal.returns
returns c = nothing_back c.args.self.now (subst (λ (x : Record). weight x.kinds ≤ MAX_WEIGHT) c.self.view_is c.self.invariant)
