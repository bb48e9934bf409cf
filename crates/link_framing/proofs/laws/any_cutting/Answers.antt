use Rattle.link_framing.proofs.Runs.{two_cuttings}
use Rattle.link_framing.proofs.laws.any_cutting.Goals as goal

pub returns : goal.returns
returns c = two_cuttings
