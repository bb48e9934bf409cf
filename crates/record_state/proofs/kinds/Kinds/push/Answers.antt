use Rattle.std.proofs.Common.{ap, ◌∙◌}
use Rattle.std.specs.FinMap.{insert}
use Rattle.std.proofs.lemmas.Result.{on_ok_weaker}
use Rattle.storage_model.specs.Records.{Slots, KindEntry}
use Rattle.record_state.specs.Written.{kind_records}
use Rattle.record_state.proofs.Listing.{kinds_listed}
use Rattle.record_state.proofs.kinds.Kinds.push.Goals as goal

pub returns-clause-listed : goal.returns-clause-listed
returns-clause-listed c =
    let written = λ (slots : Slots). let k : KindEntry = record { generation = c.args.kind.generation; append_floor = c.args.kind.append_floor; slots = slots } in k in
    on_ok_weaker c.add.result
    (λ e. ap kind_records (e ∙ ap (λ (slots : Slots). insert c.args.self.now c.args.kind.kind (written slots)) c.in_ok-slots_of.ensures) ∙ kinds_listed c.args.self.now c.args.kind c.requires)
    c.add.ensures.ok
