use Rattle.std.proofs.Common.{◌≡◌, take, fold}
use Rattle.kind_store.specs.Gathered.{with_kind}
use Rattle.kind_store.proofs.fetch.find_all.Given as goal

-- the kinds so far were found
abbrev pub invariant-loop-asked : goal.invariant-loop-asked
invariant-loop-asked l = l.found ≡ fold (with_kind l.now l.kinds) l.initial.found (take l.asked-index l.specifiers)
