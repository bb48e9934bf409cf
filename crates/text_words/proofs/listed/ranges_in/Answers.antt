use Rattle.text_words.specs.Listed.{range_of}
use Rattle.text_words.specs.Steps.{each_of}
use Rattle.text_words.proofs.CodecLaws.{read_stops, read_goes, read_ends}
use Rattle.text_words.proofs.listed.ranges_in.Goals as goal

pub returns-in-None : goal.returns-in-None
returns-in-None c = read_stops range_of c.pieces.ranges c.pieces.pieces c.in-Some.piece.now c.take.new.self (each_of range_of c.args.pieces) c.pieces.invariant c.in-Some.ensures.first c.in-None.ensures

pub pieces-preserved : goal.pieces-preserved
pieces-preserved c = read_goes range_of c.pieces.ranges c.push.new.self c.pieces.pieces c.in-Some.piece.now c.take.new.self c.in-Some-range_of.range (each_of range_of c.args.pieces) c.pieces.invariant c.in-Some.ensures.first c.in-Some-range_of.ensures c.in_ok-push-in-Some-range_of.ensures.ok

pub returns : goal.returns
returns c = read_ends range_of c.pieces.ranges c.pieces.pieces (each_of range_of c.args.pieces) c.pieces.invariant c.in_default.ensures.first
