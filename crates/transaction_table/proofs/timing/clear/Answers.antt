use Rattle.std.proofs.Common.{sym, subst}
use Rattle.std.specs.Prelude.{IsSome}
use Rattle.transaction_table.proofs.Listed.{entry_some, cleared_times}
use Rattle.transaction_table.proofs.timing.clear.Goals as goal

pub place_of-place-requires : goal.place_of-place-requires
place_of-place-requires c = entry_some _ c.requires

pub unlink-requires : goal.unlink-requires
unlink-requires c = subst IsSome (sym c.place_of-place.ensures.place) (entry_some _ c.requires)

pub returns-clause-times : goal.returns-clause-times
returns-clause-times c k =
    cleared_times c.args.id _ _ _ c.place_of-place.ensures.sound c.place_of-place.ensures.place (entry_some _ c.requires) c.unlink.ensures.entries k
