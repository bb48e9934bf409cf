use Rattle.std.proofs.Common.{sym, subst}
use Rattle.due_list.specs.Entries.{AreInOrder}
use Rattle.due_list.proofs.Orders.{in_order_without}
use Rattle.due_list.proofs.due.Due.unlink.Goals as goal

pub returns-clause-sound : goal.returns-clause-sound
returns-clause-sound c = subst AreInOrder (sym c.take.ensures.rest) (in_order_without c.args.place _ c.self.invariant)

pub invariant_of-self : goal.invariant_of-self
invariant_of-self c = returns-clause-sound c
