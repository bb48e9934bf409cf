use Rattle.link_framing.proofs.Taken.{taken_only, none_iff, bad_type_iff, too_large_iff}
use Rattle.link_framing.proofs.reader.FrameReader.take.Goals as goal

pub returns-clause-only : goal.returns-clause-only
returns-clause-only c = taken_only c.take_front.result _ _ c.take_front.ensures

pub returns-clause-none : goal.returns-clause-none
returns-clause-none c = none_iff c.take_front.result _ _ c.take_front.ensures

pub returns-clause-bad_type : goal.returns-clause-bad_type
returns-clause-bad_type c = bad_type_iff c.take_front.result _ _ c.take_front.ensures

pub returns-clause-too_large : goal.returns-clause-too_large
returns-clause-too_large c = too_large_iff c.take_front.result _ _ c.take_front.ensures
