use Rattle.std.proofs.Common.{subst}
use Rattle.message_courses.specs.Fits.{IsPassedOn}
use Rattle.overlay_peer.proofs.Sendings.{passed_fits}
use Rattle.overlay_peer.proofs.peer.Peer.plan_answer.Goals as goal

pub returns-in-Passed-clause-fits : goal.returns-in-Passed-clause-fits
returns-in-Passed-clause-fits g c = passed_fits c.args.e.header c.in-Passed.header c.args.e.behind.now c.requires.within (subst (IsPassedOn c.args.e.header) c.in-Passed.is c.in_ok-course.ensures.fits)
