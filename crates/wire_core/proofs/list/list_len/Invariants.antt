use Rattle.std.proofs.Common.{◌≡◌, ◌-◌, ◌^◌, length, min, take}
use Rattle.std.specs.List.{flat_map}
use Rattle.wire_core.proofs.list.list_len.Given as goal

abbrev pub invariant-loop-entry : goal.invariant-loop-entry
invariant-loop-entry g l = l.len ≡ min (length (flat_map g.T.Spell.spelling (take l.entry-index l.entry-items))) (2 ^ 64 - 1)
