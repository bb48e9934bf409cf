use Rattle.frames_in_flight.proofs.Fronts.{front_settled}
use Rattle.frames_in_flight.proofs.fates.Fates.settle.Goals as goal

pub invariant_of-self : goal.invariant_of-self
invariant_of-self c = front_settled c.self.inside.settled c.self.inside.fates.items c.args.at c.args.fate c.self.invariant c.requires.settled
