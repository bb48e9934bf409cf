use Rattle.overlay_laws.proofs.Ways.{owner_keeps, others_hand_on}
use Rattle.overlay_laws.proofs.laws.requests_go_to_the_owner.Goals as goal

pub returns : goal.returns
returns c = record { owner = owner_keeps; others = others_hand_on }
