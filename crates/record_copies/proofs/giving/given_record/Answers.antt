use Rattle.std.proofs.Common.{ap, sym, ◌∙◌}
use Rattle.node_model.specs.Copies as model
use Rattle.record_copies.proofs.Placing.{sound_placed, sound_few}
use Rattle.record_copies.proofs.giving.given_record.Goals as goal

pub record_said-requires-clause-placed : goal.record_said-requires-clause-placed
record_said-requires-clause-placed c = sound_placed c.args.config.now c.args.note c.args.kinds (ap (model.is_sound_copy c.args.config.now c.args.note) (sym c.as_slice.ensures) ∙ sym c.is_sound_copy.ensures ∙ c.if-not-is_sound_copy.false)

pub record_said-requires-clause-few : goal.record_said-requires-clause-few
record_said-requires-clause-few c = sound_few c.args.config.now c.args.note c.args.kinds (ap (model.is_sound_copy c.args.config.now c.args.note) (sym c.as_slice.ensures) ∙ sym c.is_sound_copy.ensures ∙ c.if-not-is_sound_copy.false)
