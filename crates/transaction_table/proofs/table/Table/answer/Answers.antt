use Rattle.std.proofs.Common.{rules}
use Rattle.transaction_table.proofs.Once.{once}
use Rattle.transaction_table.proofs.table.Table.answer.Goals as goal

pub returns-in-Some-end-clause-table : goal.returns-in-Some-end-clause-table
returns-in-Some-end-clause-table c = search rules

pub returns-in-Some-end-clause-once : goal.returns-in-Some-end-clause-once
returns-in-Some-end-clause-once c = once c.args.now c.args.from.0 c.args.id c.args.self.now c.end.ensures.apart _ (returns-in-Some-end-clause-table c)
