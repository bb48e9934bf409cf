use Rattle.std.proofs.Common.{◌≡◌, ap, sym, ◌∙◌}
use Rattle.std.specs.FinMap as map
use Rattle.storage_model.specs.Records.{Slots, KindEntry}
use Rattle.record_state.specs.Undo.{kind_restored, slot_restored}
use Rattle.ordered_tables.proofs.Finite.{found_there, chosen_false}
use Rattle.record_state.proofs.Undos.{put_there, restored_there, restored_none}
use Rattle.record_state.proofs.kinds.Kinds.restore.Goals as goal

pub returns-then-not-exchange : goal.returns-then-not-exchange
returns-then-not-exchange c =
    let none = sym c.if-not-exchange.true ∙ c.exchange.ensures.there in
    chosen_false _ _ _ _ none c.exchange.ensures.kinds ∙ restored_none c.args.self.now c.args.id c.args.counters c.args.key.now c.args.before none

pub returns : goal.returns
returns c =
    let after : KindEntry = (record { generation = c.args.counters.0; append_floor = c.args.counters.1; slots = c.restore.new.self }) in
    let back : after ≡ kind_restored c.exchange.new.kind c.args.counters c.args.key.now c.args.before =
    ap (λ (slots : Slots). let k : KindEntry = record { generation = c.args.counters.0; append_floor = c.args.counters.1; slots = slots } in k)
    (c.restore.ensures ∙ ap (λ (k : KindEntry). slot_restored k.slots c.args.key.now c.args.before) c.kind.view_is) in
    put_there c.args.self.now c.exchange.new.self c.exchange-2.new.self c.args.id c.new-kind.result after c.exchange.new.kind (sym (found_there (map.get c.args.self.now c.args.id) c.exchange.new.kind c.new-kind.result (sym c.if-not-exchange.false ∙ c.exchange.ensures.there) c.exchange.ensures.kind)) c.exchange.ensures.kinds c.exchange-2.ensures.kinds
    ∙ ap (map.insert c.args.self.now c.args.id) back
    ∙ restored_there c.args.self.now c.args.id c.exchange.new.kind c.args.counters c.args.key.now c.args.before (sym (found_there (map.get c.args.self.now c.args.id) c.exchange.new.kind c.new-kind.result (sym c.if-not-exchange.false ∙ c.exchange.ensures.there) c.exchange.ensures.kind))
