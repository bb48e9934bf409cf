use Rattle.std.proofs.Common.{◌≤◌, ℕ, List, sym, subst, ap, ◌∙◌, arith}
use Rattle.std.specs.FinMap.{from_sorted}
use Rattle.storage_model.specs.declared.limits.TheConstants.{MAX_WEIGHT}
use Rattle.storage_model.specs.Records.{SlotEntry, KindEntry}
use Rattle.record_state.specs.Written.{slots_written}
use Rattle.node_model.specs.Copies as model
use Rattle.record_copies.specs.Said as said
use Rattle.record_copies.proofs.Placing.{some_taken, rising_taken}
use Rattle.record_copies.proofs.giving.kind_said.Goals as goal

pub slots_said-requires : goal.slots_said-requires
unfolding said.kind_weight_said
slots_said-requires c = subst (λ vs. said.slots_weight c.args.note.slots vs ≤ MAX_WEIGHT) (sym c.values_of.ensures) (omega (arith, c.requires.light))

pub returns-clause-kind : goal.returns-clause-kind
unfolding model.kind_said slots_written
returns-clause-kind c =
    ap (λ (es : List (List ℕ × SlotEntry)). let k : KindEntry = record { generation = c.args.note.generation; append_floor = c.args.note.append_floor; slots = from_sorted es } in (c.args.note.kind, k))
    (c.in_ok-slots.ensures ∙ ap (model.slots_said c.args.note.slots) c.values_of.ensures)

pub returns-clause-some : goal.returns-clause-some
returns-clause-some c = some_taken c.in_ok-slots.slots c.args.note.slots c.values_of.result c.in_ok-slots.ensures c.requires.placed.some

pub returns-clause-rising : goal.returns-clause-rising
returns-clause-rising c = rising_taken c.in_ok-slots.slots c.args.note.slots c.values_of.result c.in_ok-slots.ensures c.requires.placed.rising
