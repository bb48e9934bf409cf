use Rattle.std.proofs.Common.{ap, sym, ◌∙◌}
use Rattle.std.specs.Prelude.{Some}
use Rattle.std.specs.FinMap as map
use Rattle.storage_model.specs.Records.{KindEntry}
use Rattle.record_state.specs.Undo.{with_slot, restored}
use Rattle.ordered_tables.proofs.Finite.{found_there, on_err_of}
use Rattle.record_state.proofs.Undos.{back_there, put_there, put_back, slot_put_there}
use Rattle.record_state.proofs.kinds.Kinds.put_there.Goals as goal

pub returns-in_err-key-clause-err : goal.returns-in_err-key-clause-err
returns-in_err-key-clause-err c =
    on_err_of c.from_residual.result (put_back c.args.self.now c.exchange-2.new.self c.args.id c.exchange.new.kind (sym (found_there (map.get c.args.self.now c.args.id) c.exchange.new.kind c.new-kind.result (sym c.requires) c.exchange.ensures.kind)) (put_there c.args.self.now c.exchange.new.self c.exchange-2.new.self c.args.id c.new-kind.result c.put-put.new.self c.exchange.new.kind (sym (found_there (map.get c.args.self.now c.args.id) c.exchange.new.kind c.new-kind.result (sym c.requires) c.exchange.ensures.kind)) c.exchange.ensures.kinds c.exchange-2.ensures.kinds ∙ ap (map.insert c.args.self.now c.args.id) c.in_err-key.ensures.err))

pub returns-clause-ok : goal.returns-clause-ok
returns-clause-ok c =
    put_there c.args.self.now c.exchange.new.self c.exchange-2.new.self c.args.id c.new-kind.result c.put-put.new.self c.exchange.new.kind (sym (found_there (map.get c.args.self.now c.args.id) c.exchange.new.kind c.new-kind.result (sym c.requires) c.exchange.ensures.kind)) c.exchange.ensures.kinds c.exchange-2.ensures.kinds ∙ ap (map.insert c.args.self.now c.args.id) c.in_ok-key.ensures.ok
    ∙ slot_put_there c.args.self.now c.args.id c.args.counters.0 c.args.counters.1 c.exchange.new.kind c.args.key c.args.slot (sym (found_there (map.get c.args.self.now c.args.id) c.exchange.new.kind c.new-kind.result (sym c.requires) c.exchange.ensures.kind))

pub returns-clause-undo : goal.returns-clause-undo
returns-clause-undo c =
    ap (λ m. restored m c.args.id (Some (c.kind.inside.generation, c.kind.inside.append_floor)) c.in_ok-key.key c.in_ok-key.before) (put_there c.args.self.now c.exchange.new.self c.exchange-2.new.self c.args.id c.new-kind.result c.put-put.new.self c.exchange.new.kind (sym (found_there (map.get c.args.self.now c.args.id) c.exchange.new.kind c.new-kind.result (sym c.requires) c.exchange.ensures.kind)) c.exchange.ensures.kinds c.exchange-2.ensures.kinds ∙ ap (map.insert c.args.self.now c.args.id) c.in_ok-key.ensures.ok)
    ∙ ap (λ (k : KindEntry). restored (map.insert c.args.self.now c.args.id (with_slot c.exchange.new.kind c.args.counters.0 c.args.counters.1 c.args.key c.args.slot)) c.args.id (Some (k.generation, k.append_floor)) c.in_ok-key.key c.in_ok-key.before) c.kind.view_is
    ∙ ap (λ key. restored (map.insert c.args.self.now c.args.id (with_slot c.exchange.new.kind c.args.counters.0 c.args.counters.1 c.args.key c.args.slot)) c.args.id (Some (c.exchange.new.kind.generation, c.exchange.new.kind.append_floor)) key c.in_ok-key.before) c.in_ok-key.ensures.key
    ∙ back_there c.args.self.now c.args.id c.args.counters.0 c.args.counters.1 c.exchange.new.kind c.args.key c.args.slot c.in_ok-key.before (sym (found_there (map.get c.args.self.now c.args.id) c.exchange.new.kind c.new-kind.result (sym c.requires) c.exchange.ensures.kind)) c.in_ok-key.ensures.before
