use Rattle.std.proofs.Common.{ap, ◌∙◌}
use Rattle.std.specs.Prelude.{None}
use Rattle.std.specs.FinMap as map
use Rattle.storage_model.specs.Records.{KindEntry}
use Rattle.record_state.specs.Undo.{with_slot, restored}
use Rattle.record_state.proofs.Undos.{back_new, slot_put_new}
use Rattle.record_state.proofs.kinds.Kinds.put_new.Goals as goal

pub returns-clause-ok : goal.returns-clause-ok
returns-clause-ok c =
    c.in_ok-add.ensures.ok
    ∙ ap (map.insert c.args.self.now c.args.id) (c.in_ok-key.ensures.ok ∙ ap (λ (k : KindEntry). with_slot k c.args.counters.0 c.args.counters.1 c.args.key c.args.slot) c.new-kind.ensures)
    ∙ slot_put_new c.args.self.now c.args.id c.args.counters.0 c.args.counters.1 c.args.key c.args.slot c.requires

pub returns-clause-undo : goal.returns-clause-undo
returns-clause-undo c = ap (λ m. restored m c.args.id None c.in_ok-key.key c.in_ok-key.before) c.in_ok-add.ensures.ok ∙ back_new c.args.self.now c.args.id c.put.new.self c.in_ok-key.key c.in_ok-key.before c.requires
