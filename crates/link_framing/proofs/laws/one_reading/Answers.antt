use Rattle.link_framing.proofs.Runs.{one_stream}
use Rattle.link_framing.proofs.laws.one_reading.Goals as goal

pub returns : goal.returns
returns c = one_stream
