use Rattle.std.proofs.Common.{◌≡◌, ◌++◌, take}
use Rattle.std.specs.List.{flat_map}
use Rattle.text_words.specs.Listed.{behind_comma, range_text}
use Rattle.text_words.proofs.listed.put_next_ranges.Given as goal

abbrev pub invariant-loop-range : goal.invariant-loop-range
invariant-loop-range l = l.out ≡ l.fn.out ++ flat_map (behind_comma range_text) (take l.range-index l.ranges)
