use Rattle.storage_model.specs.declared.limits.TheConstants.{MAX_WEIGHT}
use Rattle.node_model.specs.Copies as model
use Rattle.record_copies.proofs.Weights.{value_light, rest_light, slots_next}
use Rattle.std.proofs.Common.{◌∙◌, ap, ◌++◌}
use Rattle.std.specs.Prelude.{map}
use Rattle.record_state.specs.Written.{slot_entry}
use Rattle.record_copies.proofs.slots.slots_said.Goals as goal

pub slot_with-requires : goal.slot_with-requires
slot_with-requires c = value_light c.in-Some.note c.take.new.self c.notes.beside c.notes.left c.next_value-value.result MAX_WEIGHT c.in-Some.ensures c.next_value-value.ensures.value c.notes.invariant.light

pub notes-preserved : goal.notes-preserved
notes-preserved c = record {
  so_far = ap (λ s. map slot_entry s ++ model.slots_said c.take.new.self c.next_value-value.new.values) c.in_ok-push.ensures.ok
      ∙ slots_next c.notes.slots c.slot_with.result c.in-Some.note c.take.new.self c.notes.beside c.notes.left c.next_value-value.result c.next_value-value.new.values (model.slots_said c.args.notes c.args.values)
      c.in-Some.ensures c.next_value-value.ensures.value c.next_value-value.ensures.rest c.slot_with.ensures c.notes.invariant.so_far;
  light = rest_light c.in-Some.note c.take.new.self c.notes.beside c.notes.left c.next_value-value.new.values MAX_WEIGHT c.in-Some.ensures c.next_value-value.ensures.rest c.notes.invariant.light;
}
