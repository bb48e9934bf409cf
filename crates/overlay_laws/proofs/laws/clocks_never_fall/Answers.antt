use Rattle.overlay_laws.proofs.Runs.{run_in_time}
use Rattle.overlay_laws.proofs.laws.clocks_never_fall.Goals as goal

pub returns : goal.returns
returns c = run_in_time
