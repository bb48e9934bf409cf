use Rattle.link_framing.proofs.Runs.{bad_type_stays, too_large_stays}
use Rattle.link_framing.proofs.laws.faults_stay.Goals as goal

pub returns : goal.returns
returns c = record { bad_type = bad_type_stays; too_large = too_large_stays }
