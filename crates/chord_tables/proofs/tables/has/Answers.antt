use Rattle.std.proofs.Common.{◌∙◌}
use Rattle.chord_tables.proofs.Naming.{any_id}
use Rattle.chord_tables.proofs.tables.has.Goals as goal

pub returns : goal.returns
returns c = c.contains.ensures.value ∙ any_id c.args.node.0 c.args.nodes.now
