use Rattle.std.proofs.Common.{◌≡◌, ◌++◌, take}
use Rattle.std.specs.List.{flat_map}
use Rattle.text_words.specs.Listed.{behind_comma}
use Rattle.text_words.specs.Labelled.{key_name}
use Rattle.text_words.proofs.listed.put_next_names.Given as goal

abbrev pub invariant-loop-name : goal.invariant-loop-name
invariant-loop-name l = l.out ≡ l.fn.out ++ flat_map (behind_comma key_name) (take l.name-index l.names)
