use Rattle.std.proofs.Common.{ap}
use Rattle.std.proofs.lemmas.List.{map-set}
use Rattle.chord_tables.specs.Tables.{number, with_finger}
use Rattle.chord_tables.proofs.tables.Tables.set_finger.Goals as goal

pub returns : goal.returns
returns c =
    rw (c.from.ensures, map-set) (ap (with_finger c.args.i (number c.args.node)) c.self.view_is)
