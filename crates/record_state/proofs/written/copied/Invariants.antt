use Rattle.std.proofs.Common.{◌≡◌, ◌++◌}
use Rattle.std.specs.Prelude.{map}
use Rattle.ordered_tables.specs.Seen.{shown}
use Rattle.record_state.specs.Written.{slot_record, slot_records}
use Rattle.record_state.proofs.written.copied.Given as goal

-- with the slots that are left, the copies are those of all
abbrev pub invariant-loop-key : goal.invariant-loop-key
invariant-loop-key l = l.all ++ map slot_record (shown (λ k. k.items) l.key-iterator) ≡ slot_records l.slots
