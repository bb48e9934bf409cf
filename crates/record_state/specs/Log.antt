-- Kinds once all that was put is undone, the last first.
use Rattle.std.specs.Prelude.{List, [], ◌∷◌}
use Rattle.record_state.specs.declared.undo.Undo.{Undo}
use Rattle.record_state.specs.declared.undo.KindsUndo.{KindsUndo}
use Rattle.storage_model.specs.Records.{Kinds}
use Rattle.record_state.specs.Undo.{restored}

abbrev pub undone : Undo → Kinds → Kinds
undone u kinds = restored kinds u.kind u.counters u.key u.before

unfoldable pub all_undone : List Undo → Kinds → Kinds
all_undone [] kinds = kinds
all_undone (u ∷ us) kinds = undone u (all_undone us kinds)

-- kinds once all that was put into them is undone
abbrev pub kinds_undone : KindsUndo → Kinds → Kinds
kinds_undone undo kinds = all_undone undo.log kinds
