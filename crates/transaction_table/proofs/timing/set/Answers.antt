use Rattle.std.proofs.Common.{sym, ◌∙◌}
use Rattle.transaction_table.proofs.Listed.{entry_none, set_times, on_success}
use Rattle.transaction_table.proofs.timing.set.Goals as goal

pub insert_for-place-requires : goal.insert_for-place-requires
insert_for-place-requires c = entry_none _ c.requires.new

pub returns : goal.returns
returns c k =
    let added = on_success _ c.insert_for-place.result (sym c.is_ok.ensures.value ∙ c.if-prove.false) c.insert_for-place.ensures.ok in
    set_times (record { due = c.args.time; id = c.args.id; owner = c.args.owner; place = added.0 }) _ _ (entry_none _ c.requires.new) added.1 k
