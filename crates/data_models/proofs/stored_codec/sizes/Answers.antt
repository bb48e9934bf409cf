use Rattle.std.proofs.Common.{arith}
use Rattle.data_models.proofs.Lengths.{stored_size-parts, stored_size-gap}
use Rattle.data_models.proofs.stored_codec.sizes.Goals as goal

pub returns : goal.returns
returns c = record { stored = λ v signed. omega (arith, stored_size-parts v, signed); gaps = stored_size-gap }
