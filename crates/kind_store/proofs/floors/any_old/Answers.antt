use Rattle.std.proofs.Common.{◌≡◌, ◌∙◌}
use Rattle.storage_model.specs.Records.{kind_in}
use Rattle.storage_model.specs.Verdict.{is_old}
use Rattle.record_state.proofs.Placed.{any_placed}
use Rattle.kind_store.proofs.floors.any_old.Goals as goal

pub returns : goal.returns
returns c = c.any_placed_old.ensures ∙ any_placed (is_old (kind_in c.args.kinds.now c.args.id).slots) c.args.values.now
