use Rattle.wire_core.proofs.Decoders.{found_by, only_by, within_by}
use Rattle.wire_core.proofs.layout.decode_by.Goals as goal

pub returns-clause-found : goal.returns-clause-found
returns-clause-found g c = found_by (g.met.D.Decoder.is_layout c.args.decoder.now) c.args.from.now c.take.new.from c.take.result c.are_bytes.ensures c.take.ensures

pub returns-clause-only : goal.returns-clause-only
returns-clause-only g c = λ x rest spelled in_range text. only_by (g.met.D.Decoder.is_layout c.args.decoder.now) c.args.from.now c.take.new.from c.take.result x rest (spelled, in_range) text c.take.ensures

pub returns-clause-within : goal.returns-clause-within
returns-clause-within g c = λ bad is. within_by (g.met.D.Decoder.is_layout c.args.decoder.now) c.args.from.now c.take.new.from c.take.result bad c.are_bytes.ensures c.take.ensures is
