use Rattle.std.proofs.Common.{◌≡◌, take, fold}
use Rattle.kind_store.specs.Gathered.{with_range}
use Rattle.kind_store.proofs.gathering.Gathering.add_ranges.Given as goal

-- the values of the ranges so far were gathered
abbrev pub invariant-loop-range : goal.invariant-loop-range
invariant-loop-range l = l.self ≡ fold (with_range l.now l.slots) l.initial.self (take l.range-index l.ranges)
