use Rattle.message_courses.specs.Fits.{IsPassedOn}
use Rattle.message_courses.proofs.Courses.{along, answer_fits}
use Rattle.message_courses.proofs.answers.answer_course.Goals as goal

pub returns-clause-fits : goal.returns-clause-fits
returns-clause-fits c =
    along (IsPassedOn c.args.header.now) c.course_of.result _ c.course_of.ensures
    (answer_fits c.args.me.0 c.args.header.now c.requires.is_spelled c.requires.in_range)
