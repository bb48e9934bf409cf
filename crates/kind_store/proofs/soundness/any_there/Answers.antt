use Rattle.std.proofs.Common.{◌≡◌, ◌∙◌}
use Rattle.data_models.specs.Stored.{key_of}
use Rattle.storage_model.specs.Requests.{is_same_key}
use Rattle.record_state.proofs.Placed.{any_placed}
use Rattle.kind_store.proofs.soundness.any_there.Goals as goal

pub returns : goal.returns
returns c = c.any_placed_there.ensures ∙ any_placed (λ v. is_same_key (key_of c.args.key.now) (key_of v.stored.key)) c.args.values.now
