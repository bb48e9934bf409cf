use Rattle.std.proofs.Common.{ap, ◌∙◌}
use Rattle.std.specs.Ordering.{nat_cmp}
use Rattle.ordered_tables.proofs.Trees.{seen_empty}
use Rattle.transaction_table.proofs.NumberMaps.{numbered_of}
use Rattle.transaction_table.proofs.number_table.NumberTable.new.Goals as goal

pub returns : goal.returns
returns g c = ap numbered_of c.new.ensures.empty ∙ seen_empty nat_cmp
