use Rattle.std.proofs.Common.{◌≡◌, ◌++◌, map, take, drop}
use Rattle.chord_tables.specs.Tables.{number, spared}
use Rattle.chord_tables.proofs.tables.clear.Given as goal

abbrev pub invariant-loop-finger : goal.invariant-loop-finger
invariant-loop-finger l =
    map number l.finger-items
    ≡ map (spared l.node.0) (take l.finger-index (map number l.initial.finger-items))
    ++ drop l.finger-index (map number l.initial.finger-items)
