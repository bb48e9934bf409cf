use Rattle.std.proofs.Common.{arith}
use Rattle.wire_core.proofs.Decoders.{whole_found, whole_only, whole_in}
use Rattle.wire_core.proofs.layout.decode_whole.Goals as goal

pub returns-clause-found : goal.returns-clause-found
returns-clause-found g c = whole_found g.met.T.Layout.is_layout c.args.bytes.now c.take_all.result (λ i. omega (arith, c.type_inv.bytes i)) c.take_all.ensures

pub returns-clause-only : goal.returns-clause-only
returns-clause-only g c = λ x spelled in_range text. whole_only g.met.T.Layout.is_layout c.args.bytes.now c.take_all.result x (spelled, in_range) text c.take_all.ensures

pub returns-clause-within : goal.returns-clause-within
returns-clause-within g c = λ bad is. whole_in g.met.T.Layout.is_layout c.args.bytes.now c.take_all.result bad (λ i. omega (arith, c.type_inv.bytes i)) c.take_all.ensures is
