use Rattle.std.proofs.Common.{subst}
use Rattle.kind_store.specs.Undoing.{TakesBack}
use Rattle.overlay_peer.proofs.decision.take_back.Goals as goal

pub undo-requires : goal.undo-requires
undo-requires c = (c.requires.0, subst (λ undo. TakesBack undo c.args.shelf.now c.requires.0) c.in-Some.is c.requires.1)

pub returns-in-Some : goal.returns-in-Some
returns-in-Some c = λ before is. c.undo.ensures before (subst (λ undo. TakesBack undo c.args.shelf.now before) c.in-Some.is is)
