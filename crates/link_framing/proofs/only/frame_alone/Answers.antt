use Rattle.std.proofs.Common.{sym, ◌∙◌, ap, arith}
use Rattle.wire_core.specs.Part.{part}
use Rattle.link_framing.specs.Reading.{frame_at}
use Rattle.link_framing.specs.Views.{seen}
use Rattle.link_framing.proofs.Layouts.{frame_takes}
use Rattle.link_framing.proofs.only.frame_alone.Goals as goal

pub returns-clause-fits : goal.returns-clause-fits
returns-clause-fits c =
    (frame_takes (part 0 c.args.bytes.now) (seen c.in_ok-frame.frame) _ (λ i. omega (arith, c.type_inv.bytes i)) (ap frame_at (sym c.new-from.ensures) ∙ c.in_ok-frame.ensures)).0
