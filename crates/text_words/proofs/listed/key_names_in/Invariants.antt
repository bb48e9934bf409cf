use Rattle.std.proofs.Common.{◌≡◌, length}
use Rattle.text_words.specs.Labelled.{key_name_of}
use Rattle.text_words.specs.Steps.{each_of}
use Rattle.text_words.proofs.CodecLaws.{more_of}
use Rattle.text_words.proofs.listed.key_names_in.Given as goal

abbrev pub invariant-pieces : goal.invariant-pieces
invariant-pieces l = more_of l.names (each_of key_name_of l.pieces) ≡ each_of key_name_of l.fn.pieces

abbrev pub decreases-pieces : goal.decreases-pieces
decreases-pieces l = length l.pieces
