use Rattle.std.specs.FinMap.{empty}
use Rattle.transaction_table.proofs.Apart.{with_outboxes, with_issued, apart_empty}
use Rattle.transaction_table.proofs.Listed.{listed_empty}
use Rattle.transaction_table.proofs.table.Table.new.Goals as goal

pub invariant_of-result : goal.invariant_of-result
invariant_of-result c =
    (with_outboxes _ empty _ c.new.ensures (with_issued empty _ empty c.new-2.ensures apart_empty), listed_empty _ _ _ c.new-3.ensures c.new.ensures c.new-2.ensures)
