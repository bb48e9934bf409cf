use Rattle.overlay_laws.proofs.Onward.{read_on}
use Rattle.overlay_laws.proofs.laws.what_goes_on_is_read_as_it_was.Goals as goal

pub returns : goal.returns
returns c = read_on
