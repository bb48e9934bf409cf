use Rattle.std.proofs.Common.{◌≡◌, take}
use Rattle.std.specs.Prelude.{fold}
use Rattle.transaction_table.specs.Tables.{renewed}
use Rattle.transaction_table.proofs.table.Table.renew.Given as goal

-- those so far are sent again, or ended
abbrev pub invariant-loop-spot : goal.invariant-loop-spot
invariant-loop-spot l = l.self ≡ fold (renewed l.now l.limit) l.initial.self (take l.spot-index l.spots)
