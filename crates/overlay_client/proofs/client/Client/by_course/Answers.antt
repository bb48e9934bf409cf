use Rattle.std.proofs.Common.{subst}
use Rattle.message_courses.specs.Seen.{seen}
use Rattle.message_courses.specs.Fits.{IsPassedOn}
use Rattle.overlay_client.proofs.Hears.{passed_sending}
use Rattle.overlay_client.proofs.client.Client.by_course.Goals as goal

pub returns-in-Passed-clause-fits : goal.returns-in-Passed-clause-fits
returns-in-Passed-clause-fits g c =
    passed_sending (seen c.args.envelope.now) c.in-Passed.header c.requires.whole
    (subst (IsPassedOn c.args.envelope.now.header) c.in-Passed.is c.requires.passed)
