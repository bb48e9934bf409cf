use Rattle.std.proofs.Common.{◌≡◌, ap, sym, ◌∙◌}
use Rattle.std.specs.FinMap as map
use Rattle.storage_model.specs.Records.{Slots, KindEntry}
use Rattle.ordered_tables.proofs.Finite.{found_there}
use Rattle.record_state.proofs.Undos.{put_there, put_back}
use Rattle.record_state.proofs.kinds.Kinds.renew_soonest.Goals as goal

pub returns : goal.returns
returns c =
    let is = sym (found_there (map.get c.args.self.now c.args.id) c.exchange.new.kind c.new-kind.result (sym c.if-not-exchange.false ∙ c.exchange.ensures.there) c.exchange.ensures.kind) in
    let after : KindEntry = (record { generation = c.kind.inside.generation; append_floor = c.kind.inside.append_floor; slots = c.renew_soonest.new.self }) in
    let same : after ≡ c.exchange.new.kind =
    ap (λ (slots : Slots). let k : KindEntry = record { generation = c.kind.inside.generation; append_floor = c.kind.inside.append_floor; slots = slots } in k) c.renew_soonest.ensures ∙ c.kind.view_is in
    put_back c.args.self.now c.exchange-2.new.self c.args.id c.exchange.new.kind is
    (put_there c.args.self.now c.exchange.new.self c.exchange-2.new.self c.args.id c.new-kind.result after c.exchange.new.kind is c.exchange.ensures.kinds c.exchange-2.ensures.kinds
    ∙ ap (map.insert c.args.self.now c.args.id) same)
