use Rattle.std.proofs.Common.{w32}
use Rattle.std.proofs.lemmas.Nat.Bits.{bit_at_set_same, bit_at_set_other}
use Rattle.link_framing.proofs.acks.with_bit.Goals as goal

pub returns-then-marked-clause-there : goal.returns-then-marked-clause-there
returns-then-marked-clause-there c = rw c.if-marked.true (bit_at_set_same w32 c.args.mask c.args.k c.requires.place)

pub returns-then-marked-clause-others : goal.returns-then-marked-clause-others
returns-then-marked-clause-others c = bit_at_set_other w32 c.args.mask c.args.k c.requires.place
