use Rattle.std.proofs.Common.{◌∙◌, sym}
use Rattle.text_words.specs.Labelled.{key_name_of}
use Rattle.text_words.specs.Steps.{each_of}
use Rattle.text_words.proofs.CodecLaws.{read_stops, read_goes, read_ends}
use Rattle.text_words.proofs.listed.key_names_in.Goals as goal

pub returns-in-None : goal.returns-in-None
returns-in-None c =
    read_stops key_name_of c.pieces.names c.pieces.pieces c.in-Some.piece.now c.take.new.self (each_of key_name_of c.args.pieces) c.pieces.invariant c.in-Some.ensures.first (sym c.in-None.is ∙ c.in_ok-key_name_of.ensures.value)

pub pieces-preserved : goal.pieces-preserved
pieces-preserved c =
    read_goes key_name_of c.pieces.names c.push.new.self c.pieces.pieces c.in-Some.piece.now c.take.new.self c.in-Some-2.name (each_of key_name_of c.args.pieces) c.pieces.invariant c.in-Some.ensures.first (sym c.in-Some-2.is ∙ c.in_ok-key_name_of.ensures.value) c.in_ok-push-in-Some-2.ensures.ok

pub returns : goal.returns
returns c = read_ends key_name_of c.pieces.names c.pieces.pieces (each_of key_name_of c.args.pieces) c.pieces.invariant c.in_default.ensures.first
