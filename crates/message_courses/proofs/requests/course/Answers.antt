use Rattle.message_courses.specs.Fits.{IsForwardedOn}
use Rattle.message_courses.proofs.Courses.{along, course_fits}
use Rattle.message_courses.proofs.requests.course.Goals as goal

pub returns-clause-fits : goal.returns-clause-fits
returns-clause-fits c =
    let h = c.args.header.now in
    along (IsForwardedOn c.args.size h) c.course_of.result _ c.course_of.ensures
    (course_fits c.args.from c.args.tables.now c.args.state c.args.size h c.requires.is_spelled
    c.requires.in_range c.is_an_id.ensures c.requires.via)
